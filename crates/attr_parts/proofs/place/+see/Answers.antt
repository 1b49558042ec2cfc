use Rattle.std.proofs.Common.{◌≡◌, ◌++◌, List, Option, map, refl, ap, sym, ◌∙◌}
use Rattle.std.specs.declared.alloc.Global.{Global}
use Rattle.std.specs.declared.boxed.Box.{Box}
use Rattle.token_trees.specs.declared.token.TokenStream.{TokenStream}
use Rattle.token_trees.specs.View.{stream}
use Rattle.syntax_trees.specs.declared.tree.Ty.{Ty}
use Rattle.syntax_trees.specs.declared.tree.Path.{Path}
use Rattle.syntax_trees.specs.declared.tree.QSelf.{QSelf}
use Rattle.syntax_trees.specs.declared.tree.Expr.{Expr}
use Rattle.syntax_trees.specs.declared.tree.ExprPath.{out-ExprPath}
use Rattle.syntax_trees.specs.declared.tree.Member.{Member}
use Rattle.syntax_trees.specs.Syntax.{TyD, ty_array, ty_fn, ty_macro, ty_path, ArgumentsD, parens, ExprD, ex_binary, ex_call, ex_cast, ex_field, ex_index, ex_unary, ExprPathD, expr_path, tys_of, bounds_of, segments_of, generics_of, exprs_of}
use Rattle.syntax_trees.specs.View.{ty, bound_view, segment_view, generic_view, arguments_view, path_view, expr as expr_view, expr_path_view, member_view, maybe_ty_view, maybe_qself_view}
use Rattle.attr_parts.specs.Places.{ty_spans, tys_spans, output_spans, front_spans, path_spans, member_spans, tokens_spans, arguments_spans, bound_spans, bounds_spans, segment_spans, segments_spans, generic_spans, generics_spans, expr_spans, exprs_spans, expr_path_spans, reached}
use Rattle.attr_parts.proofs.Reached.{next_reached, then_reached, two_reached}
use Rattle.attr_parts.proofs.Views.{array_view, fn_view, macro_view, path_type_view, parens_view, binary_view, call_view, cast_view, field_of_view, index_view, unary_view}
use Rattle.syntax_trees.proofs.Views.{expr_path_out}
use Rattle.attr_parts.proofs.place.+see.Goals as goal

pub see_tys-loop-item-preserved : goal.see_tys-loop-item-preserved
see_tys-loop-item-preserved t c =
    let l = c.loop-item in
    next_reached ty (λ ts. tys_spans (tys_of ts)) ty_spans (λ y ys. refl) l.reach _ _ c.args.from.now l.item-index c.item-item.result c.loop-item-test.true c.item-item.is c.see_ty-reach.ensures l.invariant

pub see_bounds-loop-item-preserved : goal.see_bounds-loop-item-preserved
see_bounds-loop-item-preserved t c =
    let l = c.loop-item in
    next_reached bound_view (λ bs. bounds_spans (bounds_of bs)) bound_spans (λ y ys. refl) l.reach _ _ c.args.from.now l.item-index c.item-item.result c.loop-item-test.true c.item-item.is c.see_bound-reach.ensures l.invariant

pub see_segments-loop-item-preserved : goal.see_segments-loop-item-preserved
see_segments-loop-item-preserved t c =
    let l = c.loop-item in
    next_reached segment_view (λ ss. segments_spans (segments_of ss)) segment_spans (λ y ys. refl) l.reach _ _ c.args.from.now l.item-index c.item-item.result c.loop-item-test.true c.item-item.is c.see_segment-reach.ensures l.invariant

pub see_generics-loop-item-preserved : goal.see_generics-loop-item-preserved
see_generics-loop-item-preserved t c =
    let l = c.loop-item in
    next_reached generic_view (λ gs. generics_spans (generics_of gs)) generic_spans (λ y ys. refl) l.reach _ _ c.args.from.now l.item-index c.item-item.result c.loop-item-test.true c.item-item.is c.see_generic-reach.ensures l.invariant

pub see_exprs-loop-item-preserved : goal.see_exprs-loop-item-preserved
see_exprs-loop-item-preserved t c =
    let l = c.loop-item in
    next_reached expr_view (λ es. exprs_spans (exprs_of es)) expr_spans (λ y ys. refl) l.reach _ _ c.args.from.now l.item-index c.item-item.result c.loop-item-test.true c.item-item.is c.see_expr-reach.ensures l.invariant

pub see_arguments-returns-in-Paren : goal.see_arguments-returns-in-Paren
see_arguments-returns-in-Paren t c =
    let view : arguments_view c.args.arguments.now ≡ parens (tys_of (map ty c.in-Paren.inputs.items)) (maybe_ty_view c.in-Paren.output) = ap arguments_view c.in-Paren.is ∙ parens_view c.in-Paren.inputs c.in-Paren.output in
    two_reached (λ (ts : List Ty). tys_spans (tys_of (map ty ts))) (λ (o : Option (Box Ty Global)). output_spans (maybe_ty_view o)) c.args.place c.see_tys.result c.see_output.result c.deref-in-Paren.result.now c.in-Paren.inputs.items c.in-Paren.output c.in-Paren.output c.deref-in-Paren.ensures.value refl c.see_tys.ensures c.see_output.ensures
    ∙ ap (λ (x : ArgumentsD). reached c.args.place (arguments_spans x)) (sym view)

pub see_expr-returns-in-Binary : goal.see_expr-returns-in-Binary
see_expr-returns-in-Binary t c =
    let left = c.in-Binary.left.value in
    let operator = stream c.in-Binary.operator in
    let right = c.in-Binary.right.value in
    let view : expr_view c.args.expr.now ≡ ex_binary (expr_view left) operator (expr_view right) = ap expr_view c.in-Binary.is ∙ binary_view c.in-Binary.left c.in-Binary.operator c.in-Binary.right in
    let behind = two_reached (λ (s : TokenStream). tokens_spans (stream s)) (λ (e : Expr). expr_spans (expr_view e)) c.see_expr.result c.see_tokens.result c.see_expr-in-Binary.result c.in-Binary.operator c.in-Binary.operator c.deref-in-Binary.result.now c.in-Binary.right.value refl c.deref-in-Binary.ensures c.see_tokens.ensures c.see_expr-in-Binary.ensures in
    then_reached c.args.place c.see_expr.result c.see_expr-in-Binary.result (expr_spans (expr_view left)) (tokens_spans operator ++ expr_spans (expr_view right)) (c.see_expr.ensures ∙ ap (λ (e : Expr). reached c.args.place (expr_spans (expr_view e))) c.deref.ensures) behind
    ∙ ap (λ (x : ExprD). reached c.args.place (expr_spans x)) (sym view)

pub see_expr-returns-in-Call : goal.see_expr-returns-in-Call
see_expr-returns-in-Call t c =
    let view : expr_view c.args.expr.now ≡ ex_call (expr_view c.in-Call.function.value) (exprs_of (map expr_view c.in-Call.arguments.items)) = ap expr_view c.in-Call.is ∙ call_view c.in-Call.function c.in-Call.arguments in
    two_reached (λ (e : Expr). expr_spans (expr_view e)) (λ (es : List Expr). exprs_spans (exprs_of (map expr_view es))) c.args.place c.see_expr-in-Call.result c.see_exprs.result c.deref-in-Call.result.now c.in-Call.function.value c.deref-in-Call-2.result.now c.in-Call.arguments.items c.deref-in-Call.ensures c.deref-in-Call-2.ensures.value c.see_expr-in-Call.ensures c.see_exprs.ensures
    ∙ ap (λ (x : ExprD). reached c.args.place (expr_spans x)) (sym view)

pub see_expr-returns-in-Cast : goal.see_expr-returns-in-Cast
see_expr-returns-in-Cast t c =
    let view : expr_view c.args.expr.now ≡ ex_cast (expr_view c.in-Cast.value.value) (ty c.in-Cast.ty.value) = ap expr_view c.in-Cast.is ∙ cast_view c.in-Cast.value c.in-Cast.ty in
    two_reached (λ (e : Expr). expr_spans (expr_view e)) (λ (t : Ty). ty_spans (ty t)) c.args.place c.see_expr-in-Cast.result c.see_ty.result c.deref-in-Cast.result.now c.in-Cast.value.value c.deref-in-Cast-2.result.now c.in-Cast.ty.value c.deref-in-Cast.ensures c.deref-in-Cast-2.ensures c.see_expr-in-Cast.ensures c.see_ty.ensures
    ∙ ap (λ (x : ExprD). reached c.args.place (expr_spans x)) (sym view)

pub see_expr-returns-in-Field : goal.see_expr-returns-in-Field
see_expr-returns-in-Field t c =
    let view : expr_view c.args.expr.now ≡ ex_field (expr_view c.in-Field.value.value) (member_view c.in-Field.member) = ap expr_view c.in-Field.is ∙ field_of_view c.in-Field.value c.in-Field.member in
    two_reached (λ (e : Expr). expr_spans (expr_view e)) (λ (m : Member). member_spans (member_view m)) c.args.place c.see_expr-in-Field.result c.see_member.result c.deref-in-Field.result.now c.in-Field.value.value c.in-Field.member c.in-Field.member c.deref-in-Field.ensures refl c.see_expr-in-Field.ensures c.see_member.ensures
    ∙ ap (λ (x : ExprD). reached c.args.place (expr_spans x)) (sym view)

pub see_expr-returns-in-Index : goal.see_expr-returns-in-Index
see_expr-returns-in-Index t c =
    let view : expr_view c.args.expr.now ≡ ex_index (expr_view c.in-Index.value.value) (expr_view c.in-Index.index.value) = ap expr_view c.in-Index.is ∙ index_view c.in-Index.value c.in-Index.index in
    two_reached (λ (e : Expr). expr_spans (expr_view e)) (λ (e : Expr). expr_spans (expr_view e)) c.args.place c.see_expr-in-Index.result c.see_expr-in-Index-2.result c.deref-in-Index.result.now c.in-Index.value.value c.deref-in-Index-2.result.now c.in-Index.index.value c.deref-in-Index.ensures c.deref-in-Index-2.ensures c.see_expr-in-Index.ensures c.see_expr-in-Index-2.ensures
    ∙ ap (λ (x : ExprD). reached c.args.place (expr_spans x)) (sym view)

pub see_expr-returns-in-Unary : goal.see_expr-returns-in-Unary
see_expr-returns-in-Unary t c =
    let view : expr_view c.args.expr.now ≡ ex_unary (stream c.in-Unary.operator) (expr_view c.in-Unary.value.value) = ap expr_view c.in-Unary.is ∙ unary_view c.in-Unary.operator c.in-Unary.value in
    two_reached (λ (s : TokenStream). tokens_spans (stream s)) (λ (e : Expr). expr_spans (expr_view e)) c.args.place c.see_tokens-in-Unary.result c.see_expr-in-Unary.result c.in-Unary.operator c.in-Unary.operator c.deref-in-Unary.result.now c.in-Unary.value.value refl c.deref-in-Unary.ensures c.see_tokens-in-Unary.ensures c.see_expr-in-Unary.ensures
    ∙ ap (λ (x : ExprD). reached c.args.place (expr_spans x)) (sym view)

pub see_expr_path-returns : goal.see_expr_path-returns
see_expr_path-returns t c =
    let p = out-ExprPath c.args.path.now in
    let view : expr_path_view c.args.path.now ≡ expr_path (maybe_qself_view p.qself) (path_view p.path) = expr_path_out c.args.path.now in
    two_reached (λ (q : Option (Box QSelf Global)). front_spans (maybe_qself_view q)) (λ (p : Path). path_spans (path_view p)) c.args.place c.see_front.result c.see_path.result p.qself p.qself p.path p.path refl refl c.see_front.ensures c.see_path.ensures
    ∙ ap (λ (x : ExprPathD). reached c.args.place (expr_path_spans x)) (sym view)

pub see_ty-returns-in-Array : goal.see_ty-returns-in-Array
see_ty-returns-in-Array t c =
    let view : ty c.args.ty.now ≡ ty_array (ty c.in-Array.elem.value) (expr_view c.in-Array.len.value) = ap ty c.in-Array.is ∙ array_view c.in-Array.elem c.in-Array.len in
    two_reached (λ (t : Ty). ty_spans (ty t)) (λ (e : Expr). expr_spans (expr_view e)) c.args.place c.see_ty.result c.see_expr.result c.deref.result.now c.in-Array.elem.value c.deref-in-Array.result.now c.in-Array.len.value c.deref.ensures c.deref-in-Array.ensures c.see_ty.ensures c.see_expr.ensures
    ∙ ap (λ (x : TyD). reached c.args.place (ty_spans x)) (sym view)

pub see_ty-returns-in-FnPtr : goal.see_ty-returns-in-FnPtr
see_ty-returns-in-FnPtr t c =
    let view : ty c.args.ty.now ≡ ty_fn (tys_of (map ty c.in-FnPtr.inputs.items)) (maybe_ty_view c.in-FnPtr.output) = ap ty c.in-FnPtr.is ∙ fn_view c.in-FnPtr.inputs c.in-FnPtr.output in
    two_reached (λ (ts : List Ty). tys_spans (tys_of (map ty ts))) (λ (o : Option (Box Ty Global)). output_spans (maybe_ty_view o)) c.args.place c.see_tys.result c.see_output.result c.deref-in-FnPtr.result.now c.in-FnPtr.inputs.items c.in-FnPtr.output c.in-FnPtr.output c.deref-in-FnPtr.ensures.value refl c.see_tys.ensures c.see_output.ensures
    ∙ ap (λ (x : TyD). reached c.args.place (ty_spans x)) (sym view)

pub see_ty-returns-in-Macro : goal.see_ty-returns-in-Macro
see_ty-returns-in-Macro t c =
    let view : ty c.args.ty.now ≡ ty_macro (path_view c.in-Macro.path) (stream c.in-Macro.tokens) = ap ty c.in-Macro.is ∙ macro_view c.in-Macro.path c.in-Macro.tokens in
    two_reached (λ (p : Path). path_spans (path_view p)) (λ (s : TokenStream). tokens_spans (stream s)) c.args.place c.see_path.result c.see_tokens.result c.in-Macro.path c.in-Macro.path c.in-Macro.tokens c.in-Macro.tokens refl refl c.see_path.ensures c.see_tokens.ensures
    ∙ ap (λ (x : TyD). reached c.args.place (ty_spans x)) (sym view)

pub see_ty-returns-in-Path : goal.see_ty-returns-in-Path
see_ty-returns-in-Path t c =
    let view : ty c.args.ty.now ≡ ty_path (maybe_qself_view c.in-Path.qself) (path_view c.in-Path.path) = ap ty c.in-Path.is ∙ path_type_view c.in-Path.qself c.in-Path.path in
    two_reached (λ (q : Option (Box QSelf Global)). front_spans (maybe_qself_view q)) (λ (p : Path). path_spans (path_view p)) c.args.place c.see_front.result c.see_path-in-Path.result c.in-Path.qself c.in-Path.qself c.in-Path.path c.in-Path.path refl refl c.see_front.ensures c.see_path-in-Path.ensures
    ∙ ap (λ (x : TyD). reached c.args.place (ty_spans x)) (sym view)
