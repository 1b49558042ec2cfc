-- Parts of the grammar that have readers of their own. Each is the grammar's, cut into smaller pieces.
use Rattle.std.specs.Prelude.{List, [], ◌∷◌, ◌++◌, Bool, true, false, Option, Some, None, Result, Ok, cond, codes, length}
use Rattle.token_trees.specs.declared.token.Span.{Span}
use Rattle.token_trees.specs.Token.{Tok, Name, Fixed}
use Rattle.syntax_trees.specs.Metas.{place}
use Rattle.syntax_trees.specs.Syntax.{TyD, ty_array, ty_impl, ty_infer, ty_never, ty_slice, ty_object, path, GenericD, arg_lifetime, arg_ty, arg_const, arg_assoc_ty, arg_assoc_const, arg_constraint, qself, ExprD, ex_fixed, ExprPathD, expr_path, some_qself, bounds_of, segments_of}
use Rattle.syntax_trees.specs.declared.cursor.SyntaxKind.TheVariants.{ExpectedType}
use Rattle.syntax_trees.specs.declared.cursor.SyntaxError.{SyntaxError}
use Rattle.syntax_parsers.specs.Answer.{◌>>=◌}
use Rattle.syntax_parsers.specs.Fronts.{is_parens, is_brackets, sign_front, keyword_front, literal_front, group_front, lifetime_front, name_front, path_next, colon_front, labelled}
use Rattle.syntax_parsers.specs.Grammar.{Readers, Reader, choose, missing, whole, reference_body, pointer_body, qualified_body, qualified_ty, behind_body, trait_body, bracketed_body, length_body, other_length, parenthesised, function_body, some_bounds, path_ty, constant_front}

-- a type that begins with a path
unfoldable pub plain_ty : Readers → Reader TyD
plain_ty r at ts = cond (path_next ts) (path_ty r at ts) (missing ExpectedType at ts)

-- a type that begins with a word
unfoldable pub worded_ty : Readers → Reader TyD
worded_ty r at ts =
    choose (keyword_front (codes "_") ts) (λ rest. Ok (ty_infer (place at ts), rest))
    (choose (keyword_front (codes "fn") ts) (function_body r at)
    (choose (keyword_front (codes "impl") ts) (λ rest. some_bounds r at rest >>= λ bs. Ok (ty_impl (bounds_of bs.0), bs.1))
    (choose (keyword_front (codes "dyn") ts) (λ rest. some_bounds r at rest >>= λ bs. Ok (ty_object (bounds_of bs.0), bs.1))
    (plain_ty r at ts))))

-- a type in brackets or parentheses, or one that begins with a word
unfoldable pub grouped_ty : Readers → Reader TyD
grouped_ty r at ts =
    choose (group_front is_brackets ts) (λ g. bracketed_body r g.1 g.0 >>= λ t. Ok (t, g.2))
    (choose (group_front is_parens ts) (λ g. r.tys g.1 g.0 >>= λ us. Ok (parenthesised us, g.2))
    (worded_ty r at ts))

-- a type
unfoldable pub signed_ty : Readers → Reader TyD
signed_ty r at ts =
    choose (sign_front 38 ts) (reference_body r at)
    (choose (sign_front 42 ts) (pointer_body r at)
    (choose (sign_front 33 ts) (λ rest. Ok (ty_never (place at ts), rest))
    (choose (sign_front 60 ts) (λ rest. qualified_body r at rest >>= λ p. Ok (qualified_ty p.0, p.1))
    (grouped_ty r at ts))))

-- the value of an associated item: no type, else a type
unfoldable pub associated_body : Readers → Name → Reader GenericD
associated_body r x at ts =
    choose (constant_front ts) (λ e. Ok (arg_assoc_const x e.0, e.1)) (r.ty at ts >>= λ t. Ok (arg_assoc_ty x t.0, t.1))

-- an argument that is an associated item or a type
unfoldable pub named_generic : Readers → Reader GenericD
named_generic r at ts =
    choose (labelled (sign_front 61) (name_front ts)) (λ x. associated_body r x.0 at x.1)
    (choose (labelled colon_front (name_front ts)) (λ x. r.bounds at x.1 >>= λ bs. Ok (arg_constraint x.0 (bounds_of bs.0), bs.1))
    (r.ty at ts >>= λ t. Ok (arg_ty t.0, t.1)))

-- an argument
unfoldable pub argument_body : Readers → Reader GenericD
argument_body r at ts =
    choose (lifetime_front ts) (λ l. Ok (arg_lifetime l.0, l.1))
    (choose (constant_front ts) (λ e. Ok (arg_const e.0, e.1)) (named_generic r at ts))

-- behind `T as`, within `<>`
unfoldable pub through_trait : Readers → TyD → Reader ExprPathD
through_trait r t at ts =
    trait_body r at ts >>= λ p. behind_body r at p.2 >>= λ more.
    Ok (expr_path (some_qself (qself t (length p.1))) (path p.0 (segments_of (p.1 ++ more.0))), more.1)

-- what stands within brackets behind the first type
unfoldable pub behind_element : Readers → TyD → Span → List Tok → Result TyD SyntaxError
behind_element r t at ts =
    choose (sign_front 59 ts) (λ rest. length_body r at rest >>= λ e. Ok (ty_array t e)) (whole at (Ok (ty_slice t, ts)))

abbrev pub is_nothing : List Tok → Bool
is_nothing [] = true
is_nothing (t ∷ ts) = false

-- the literal that all tokens are
abbrev pub literal_alone : List Tok → Option (Fixed × Span)
literal_alone ts = choose (literal_front ts) (λ l. cond (is_nothing l.2) (Some (l.0, l.1)) None) None

-- the length of an array, where there are tokens
unfoldable pub some_length : Readers → Span → List Tok → Result ExprD SyntaxError
some_length r at ts = choose (literal_alone ts) (λ l. Ok (ex_fixed l.0 l.1)) (Ok (other_length ts (whole at (r.expr_path at ts))))
