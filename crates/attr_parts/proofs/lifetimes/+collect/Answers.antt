use Rattle.std.proofs.Common.{◌≡◌, ◌+◌, drop, map, ap, sym, subst, ◌∙◌}
use Rattle.syntax_trees.specs.Syntax.{TyD, ty_path, tys_of, segments_of, generics_of}
use Rattle.syntax_trees.specs.View.{ty, path_view, maybe_qself_view, segment_view, generic_view}
use Rattle.attr_parts.specs.Lifetimes.{lifetimes, added, AddsFront, lifetimes_of, maybe_qself_lifetimes, path_lifetimes, all_lifetimes, segment_lifetimes, segments_lifetimes, generic_lifetimes, generics_lifetimes}
use Rattle.attr_parts.proofs.Added.{added_append, adds_later, added_more, added_front, mapped_drop, always_err}
use Rattle.attr_parts.proofs.Views.{path_type_view}
use Rattle.attr_parts.proofs.lifetimes.+collect.Goals as goal

pub collect_tys-returns-in_err-collect_lifetimes-clause-err : goal.collect_tys-returns-in_err-collect_lifetimes-clause-err
collect_tys-returns-in_err-collect_lifetimes-clause-err t c =
    let l = c.loop-item in
    let rest = all_lifetimes (tys_of (map ty (drop (l.item-index + 1) c.args.from.now))) in
    let left = ap (λ xs. all_lifetimes (tys_of xs)) (mapped_drop ty c.args.from.now l.item-index c.item-item.result c.loop-item-test.true c.item-item.is) in
    always_err _ _ (added_front _ _ _ _ _ (lifetimes_of (ty c.item-item.result)) rest l.invariant left c.in_err-collect_lifetimes.ensures.err)

pub collect_tys-loop-item-preserved : goal.collect_tys-loop-item-preserved
collect_tys-loop-item-preserved t c =
    let l = c.loop-item in
    let left = ap (λ xs. all_lifetimes (tys_of xs)) (mapped_drop ty c.args.from.now l.item-index c.item-item.result c.loop-item-test.true c.item-item.is) in
    added_more _ _ _ _ _ (lifetimes_of (ty c.item-item.result)) _ l.invariant left c.in_ok-collect_lifetimes.ensures.ok

pub collect_segments-returns-in_err-collect_segment-clause-err : goal.collect_segments-returns-in_err-collect_segment-clause-err
collect_segments-returns-in_err-collect_segment-clause-err t c =
    let l = c.loop-item in
    let rest = segments_lifetimes (segments_of (map segment_view (drop (l.item-index + 1) c.args.from.now))) in
    let left = ap (λ xs. segments_lifetimes (segments_of xs)) (mapped_drop segment_view c.args.from.now l.item-index c.item-item.result c.loop-item-test.true c.item-item.is) in
    always_err _ _ (added_front _ _ _ _ _ (segment_lifetimes (segment_view c.item-item.result)) rest l.invariant left c.in_err-collect_segment.ensures.err)

pub collect_segments-loop-item-preserved : goal.collect_segments-loop-item-preserved
collect_segments-loop-item-preserved t c =
    let l = c.loop-item in
    let left = ap (λ xs. segments_lifetimes (segments_of xs)) (mapped_drop segment_view c.args.from.now l.item-index c.item-item.result c.loop-item-test.true c.item-item.is) in
    added_more _ _ _ _ _ (segment_lifetimes (segment_view c.item-item.result)) _ l.invariant left c.in_ok-collect_segment.ensures.ok

pub collect_generics-returns-in_err-collect_generic-clause-err : goal.collect_generics-returns-in_err-collect_generic-clause-err
collect_generics-returns-in_err-collect_generic-clause-err t c =
    let l = c.loop-item in
    let rest = generics_lifetimes (generics_of (map generic_view (drop (l.item-index + 1) c.args.from.now))) in
    let left = ap (λ xs. generics_lifetimes (generics_of xs)) (mapped_drop generic_view c.args.from.now l.item-index c.item-item.result c.loop-item-test.true c.item-item.is) in
    always_err _ _ (added_front _ _ _ _ _ (generic_lifetimes (generic_view c.item-item.result)) rest l.invariant left c.in_err-collect_generic.ensures.err)

pub collect_generics-loop-item-preserved : goal.collect_generics-loop-item-preserved
collect_generics-loop-item-preserved t c =
    let l = c.loop-item in
    let left = ap (λ xs. generics_lifetimes (generics_of xs)) (mapped_drop generic_view c.args.from.now l.item-index c.item-item.result c.loop-item-test.true c.item-item.is) in
    added_more _ _ _ _ _ (generic_lifetimes (generic_view c.item-item.result)) _ l.invariant left c.in_ok-collect_generic.ensures.ok

pub collect_lifetimes-returns-in_ok-collect_path-in-Path-clause-ok : goal.collect_lifetimes-returns-in_ok-collect_path-in-Path-clause-ok
collect_lifetimes-returns-in_ok-collect_path-in-Path-clause-ok t c =
    let old = lifetimes c.args.out.now in
    let front = maybe_qself_lifetimes (maybe_qself_view c.in-Path.qself) in
    let behind = path_lifetimes (path_view c.in-Path.path) in
    let view : ty c.args.ty.now ≡ ty_path (maybe_qself_view c.in-Path.qself) (path_view c.in-Path.path) = ap ty c.in-Path.is ∙ path_type_view c.in-Path.qself c.in-Path.path in
    c.in_ok-collect_path-in-Path.ensures.ok
    ∙ ap (λ ls. added ls behind) c.in_ok-collect_front-in-Path.ensures.ok
    ∙ sym (added_append old front behind)
    ∙ ap (λ (x : TyD). added old (lifetimes_of x)) (sym view)

pub collect_lifetimes-returns-in_err-collect_path-in-Path-clause-err : goal.collect_lifetimes-returns-in_err-collect_path-in-Path-clause-err
collect_lifetimes-returns-in_err-collect_path-in-Path-clause-err t c =
    let old = lifetimes c.args.out.now in
    let new = lifetimes c.collect_path.new.out in
    let front = maybe_qself_lifetimes (maybe_qself_view c.in-Path.qself) in
    let behind = path_lifetimes (path_view c.in-Path.path) in
    let view : ty c.args.ty.now ≡ ty_path (maybe_qself_view c.in-Path.qself) (path_view c.in-Path.path) = ap ty c.in-Path.is ∙ path_type_view c.in-Path.qself c.in-Path.path in
    always_err _ _ (subst (λ (x : TyD). AddsFront old new (lifetimes_of x)) (sym view) (adds_later old _ new front behind c.in_ok-collect_front-in-Path.ensures.ok c.in_err-collect_path-in-Path.ensures.err))
