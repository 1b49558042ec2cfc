-- How types, paths and bounds are read: one level of each, over readers for what they hold. A reader is given the place of the
-- group that the tokens stand in, and gives the tree with the tokens behind it, or what offends and where.
use Rattle.std.specs.Prelude.{List, [], ◌∷◌, ◌++◌, Bool, true, false, Option, Some, None, Result, Ok, Err, cond, codes, length}
use Rattle.token_trees.specs.declared.token.Span.{Span}
use Rattle.token_trees.specs.Token.{Tok, fixed}
use Rattle.syntax_trees.specs.Metas.{place, sign_next}
use Rattle.syntax_trees.specs.Syntax.{LifetimeD, TyD, ty_array, ty_fn, ty_group, ty_impl, ty_infer, ty_macro, ty_never, ty_paren, ty_path, ty_pointer, ty_reference, ty_slice, ty_object, ty_tuple, ty_verbatim, PathD, path, SegmentD, segment, ArgumentsD, no_arguments, angle, parens, GenericD, arg_lifetime, arg_ty, arg_const, arg_assoc_ty, arg_assoc_const, arg_constraint, qself, ExprD, ex_fixed, ex_path, ex_verbatim, ExprPathD, expr_path, BoundD, bound_trait, bound_lifetime, MaybeTy, no_ty, some_ty, no_qself, some_qself, Bounds, end_bounds, more_bounds, Segments, end_segments, more_segments, tys_of, bounds_of, segments_of, generics_of}
use Rattle.syntax_trees.specs.declared.cursor.SyntaxKind.{SyntaxKind}
use Rattle.syntax_trees.specs.declared.cursor.SyntaxKind.TheVariants.{ExpectedPath, ExpectedComma, ExpectedParen, ExpectedValue, ExpectedIdent, ExpectedType, ExpectedGt, ExpectedBound, UnexpectedToken}
use Rattle.syntax_trees.specs.declared.cursor.SyntaxError.{SyntaxError}
use Rattle.syntax_parsers.specs.Answer.{error, ◌>>=◌}
use Rattle.syntax_parsers.specs.Fronts.{is_parens, is_brackets, is_braces, sign_front, colons_front, arrow_front, keyword_front, literal_front, group_front, tree_front, lifetime_front, name_front, segment_front, path_next, bound_next, further_front, colon_front, angle_front, labelled}

abbrev pub Read : Type 0 → Type 0
Read A = Result (A × List Tok) SyntaxError

abbrev pub Reader : Type 0 → Type 0
Reader A = Span → List Tok → Read A

-- types with a comma between any two, up to the end, and whether one stands behind the last
abbrev pub ListReader : Type 0
ListReader = Span → List Tok → Result (List TyD × Bool) SyntaxError

pub record Readers : Type 0 where
  pub ty : Reader TyD
  pub tys : ListReader
  pub bounds : Reader (List BoundD)
  pub segments : Reader (List SegmentD)
  pub generics : Reader (List GenericD)
  pub expr_path : Reader ExprPathD

-- the first that is there
abbrev pub choose : {A B : Type 0} → Option A → (A → B) → B → B
choose None f b = b
choose (Some x) f b = f x

-- what is missing here
abbrev pub missing : {A : Type 0} → SyntaxKind → Span → List Tok → Result A SyntaxError
missing kind at ts = Err (error kind (place at ts))

abbrev pub required : {A : Type 0} → Option A → SyntaxKind → Span → List Tok → Result A SyntaxError
required None kind at ts = missing kind at ts
required (Some x) kind at ts = Ok x

-- the tree that all tokens are
abbrev pub whole : {A : Type 0} → Span → Read A → Result A SyntaxError
whole at (Err e) = Err e
whole at (Ok (x, [])) = Ok x
whole at (Ok (x, t ∷ ts)) = missing UnexpectedToken at (t ∷ ts)

-- `-> T`, where it stands
unfoldable pub output_body : Readers → Reader MaybeTy
output_body r at ts = choose (arrow_front ts) (λ rest. r.ty at rest >>= λ t. Ok (some_ty t.0, t.1)) (Ok (no_ty, ts))

unfoldable pub path_body : Readers → Reader PathD
path_body r at ts =
    choose (colons_front ts) (λ rest. r.segments at rest >>= λ ss. Ok (path true (segments_of ss.0), ss.1))
    (r.segments at ts >>= λ ss. Ok (path false (segments_of ss.0), ss.1))

-- a path that goes on behind a `>`: whether `::` stands before it, and its segments up to there
unfoldable pub trait_body : Readers → Span → List Tok → Result (Bool × List SegmentD × List Tok) SyntaxError
trait_body r at ts =
    choose (colons_front ts) (λ rest. r.segments at rest >>= λ ss. Ok (true, ss.0, ss.1))
    (r.segments at ts >>= λ ss. Ok (false, ss.0, ss.1))

-- `>::` and the segments behind it
unfoldable pub behind_body : Readers → Reader (List SegmentD)
behind_body r at ts =
    required (sign_front 62 ts) ExpectedGt at ts >>= λ rest.
    required (colons_front rest) ExpectedPath at rest >>= λ us.
    r.segments at us

-- behind a `<`: `T as P>::rest`, or `T>::rest`
unfoldable pub qualified_body : Readers → Reader ExprPathD
qualified_body r at ts =
    r.ty at ts >>= λ t.
    choose (keyword_front (codes "as") t.1)
    (λ rest. trait_body r at rest >>= λ p. behind_body r at p.2 >>= λ more.
    Ok (expr_path (some_qself (qself t.0 (length p.1))) (path p.0 (segments_of (p.1 ++ more.0))), more.1))
    (behind_body r at t.1 >>= λ more. Ok (expr_path (some_qself (qself t.0 0)) (path true (segments_of more.0)), more.1))

unfoldable pub expr_path_body : Readers → Reader ExprPathD
expr_path_body r at ts =
    choose (sign_front 60 ts) (λ rest. qualified_body r at rest)
    (path_body r at ts >>= λ p. Ok (expr_path no_qself p.0, p.1))

-- the length of an array: a literal, else a path, else its tokens
abbrev pub other_length : List Tok → Result ExprPathD SyntaxError → ExprD
other_length ts (Ok p) = ex_path p
other_length ts (Err e) = ex_verbatim ts

unfoldable pub length_body : Readers → Span → List Tok → Result ExprD SyntaxError
length_body r at [] = missing ExpectedValue at []
length_body r at (fixed l s ∷ []) = Ok (ex_fixed l s)
length_body r at (t ∷ ts) = Ok (other_length (t ∷ ts) (whole at (r.expr_path at (t ∷ ts))))

-- what stands within brackets
unfoldable pub bracketed_body : Readers → Span → List Tok → Result TyD SyntaxError
bracketed_body r at ts =
    r.ty at ts >>= λ t.
    choose (sign_front 59 t.1) (λ rest. length_body r at rest >>= λ e. Ok (ty_array t.0 e)) (whole at (Ok (ty_slice t.0, t.1)))

-- what stands within parentheses: one type without a comma is that type
abbrev pub parenthesised : List TyD × Bool → TyD
parenthesised (t ∷ [], false) = ty_paren t
parenthesised (t ∷ [], true) = ty_tuple (tys_of (t ∷ []))
parenthesised ([], b) = ty_tuple (tys_of [])
parenthesised (t ∷ u ∷ us, b) = ty_tuple (tys_of (t ∷ u ∷ us))

abbrev pub mut_front : List Tok → Bool × List Tok
mut_front ts = choose (keyword_front (codes "mut") ts) (λ rest. (true, rest)) (false, ts)

abbrev pub maybe_lifetime_front : List Tok → Option LifetimeD × List Tok
maybe_lifetime_front ts = choose (lifetime_front ts) (λ l. (Some l.0, l.1)) (None, ts)

-- behind a `&`
unfoldable pub reference_body : Readers → Reader TyD
reference_body r at ts =
    let l = maybe_lifetime_front ts in
    let m = mut_front l.1 in
    r.ty at m.1 >>= λ t. Ok (ty_reference l.0 m.0 t.0, t.1)

-- behind a `*`
unfoldable pub pointer_body : Readers → Reader TyD
pointer_body r at ts =
    choose (keyword_front (codes "mut") ts) (λ rest. r.ty at rest >>= λ t. Ok (ty_pointer true t.0, t.1))
    (required (keyword_front (codes "const") ts) UnexpectedToken at ts >>= λ rest. r.ty at rest >>= λ t. Ok (ty_pointer false t.0, t.1))

-- the types within a group in parentheses, and what is given back
unfoldable pub signature_body : Readers → List Tok × Span × List Tok → Span → Result (List TyD × MaybeTy × List Tok) SyntaxError
signature_body r g at = r.tys g.1 g.0 >>= λ us. output_body r at g.2 >>= λ o. Ok (us.0, o.0, o.1)

-- behind `fn`
unfoldable pub function_body : Readers → Reader TyD
function_body r at ts =
    required (group_front is_parens ts) ExpectedParen at ts >>= λ g.
    signature_body r g at >>= λ f. Ok (ty_fn (tys_of f.0) f.1, f.2)

-- one or more bounds
unfoldable pub some_bounds : Readers → Reader (List BoundD)
some_bounds r at ts = cond (bound_next ts) (r.bounds at ts) (missing ExpectedBound at ts)

-- Whether what stands behind a tree belongs to a type at its end: a `::` with more of a path, or where `bang` says so the `!` of a
-- macro. A path as a type takes both, that of a bound or behind `<T>` the `::` alone, and one that ends in `-> T` all that T takes.
-- What ends in brackets, a lifetime, `_` or `!` takes neither. Of a list, `was` says it of the element before.
abbrev mutual
  pub takes_ty : Bool → TyD → Bool
  takes_ty bang (ty_array t e) = false
  takes_ty bang (ty_fn is o) = takes_output bang o
  takes_ty bang (ty_group t) = false
  takes_ty bang (ty_impl bs) = takes_bounds bang false bs
  takes_ty bang (ty_infer s) = false
  takes_ty bang (ty_macro p m) = false
  takes_ty bang (ty_never s) = false
  takes_ty bang (ty_paren t) = false
  takes_ty bang (ty_path no_qself p) = true
  takes_ty bang (ty_path (some_qself q) p) = cond bang (gives_path p) true
  takes_ty bang (ty_pointer m t) = takes_ty bang t
  takes_ty bang (ty_reference l m t) = takes_ty bang t
  takes_ty bang (ty_slice t) = false
  takes_ty bang (ty_object bs) = takes_bounds bang false bs
  takes_ty bang (ty_tuple is) = false
  takes_ty bang (ty_verbatim m) = false

  pub takes_output : Bool → MaybeTy → Bool
  takes_output bang no_ty = false
  takes_output bang (some_ty t) = takes_ty bang t

  pub takes_bounds : Bool → Bool → Bounds → Bool
  takes_bounds bang was end_bounds = was
  takes_bounds bang was (more_bounds b bs) = takes_bounds bang (takes_bound bang b) bs

  pub takes_bound : Bool → BoundD → Bool
  takes_bound bang (bound_trait p) = cond bang (gives_path p) true
  takes_bound bang (bound_lifetime l) = false

  -- whether the `!` of a macro with this path would belong to the path's end
  pub gives_path : PathD → Bool
  gives_path (path l ss) = gives_last false ss

  pub gives_last : Bool → Segments → Bool
  gives_last was end_segments = was
  gives_last was (more_segments s ss) = gives_last (takes_segment true s) ss

  pub takes_segment : Bool → SegmentD → Bool
  takes_segment bang (segment x a) = takes_arguments bang a

  pub takes_arguments : Bool → ArgumentsD → Bool
  takes_arguments bang no_arguments = false
  takes_arguments bang (angle t gs) = false
  takes_arguments bang (parens is o) = takes_output bang o

-- the same of a path that is a bound, or stands behind `<T>`
abbrev pub takes_path : Bool → PathD → Bool
takes_path bang p = cond bang (gives_path p) true

-- whether a `::` behind a segment belongs to the segment's end
abbrev pub gives_segment : SegmentD → Bool
gives_segment s = takes_segment false s

-- a path, or with a `!` and a group behind it a macro
unfoldable pub path_ty : Readers → Reader TyD
path_ty r at ts =
    path_body r at ts >>= λ p.
    choose (cond (gives_path p.0) None (choose (sign_front 33 p.1) tree_front None)) (λ g. Ok (ty_macro p.0 (g.0 ∷ []), g.1)) (Ok (ty_path no_qself p.0, p.1))

abbrev pub qualified_ty : ExprPathD → TyD
qualified_ty (expr_path q p) = ty_path q p

unfoldable pub ty_body : Readers → Reader TyD
ty_body r at ts =
    choose (sign_front 38 ts) (reference_body r at)
    (choose (sign_front 42 ts) (pointer_body r at)
    (choose (sign_front 33 ts) (λ rest. Ok (ty_never (place at ts), rest))
    (choose (sign_front 60 ts) (λ rest. qualified_body r at rest >>= λ p. Ok (qualified_ty p.0, p.1))
    (choose (group_front is_brackets ts) (λ g. bracketed_body r g.1 g.0 >>= λ t. Ok (t, g.2))
    (choose (group_front is_parens ts) (λ g. r.tys g.1 g.0 >>= λ us. Ok (parenthesised us, g.2))
    (choose (keyword_front (codes "_") ts) (λ rest. Ok (ty_infer (place at ts), rest))
    (choose (keyword_front (codes "fn") ts) (function_body r at)
    (choose (keyword_front (codes "impl") ts) (λ rest. some_bounds r at rest >>= λ bs. Ok (ty_impl (bounds_of bs.0), bs.1))
    (choose (keyword_front (codes "dyn") ts) (λ rest. some_bounds r at rest >>= λ bs. Ok (ty_object (bounds_of bs.0), bs.1))
    (cond (path_next ts) (path_ty r at ts) (missing ExpectedType at ts)))))))))))

unfoldable pub tys_body : Readers → ListReader
tys_body r at [] = Ok ([], false)
tys_body r at (u ∷ us) =
    r.ty at (u ∷ us) >>= λ t. tys_behind r at t.0 t.1
  where
    tys_behind : Readers → Span → TyD → List Tok → Result (List TyD × Bool) SyntaxError
    tys_behind r at t [] = Ok (t ∷ [], false)
    tys_behind r at t (v ∷ []) = required (sign_front 44 (v ∷ [])) ExpectedComma at (v ∷ []) >>= λ rest. Ok (t ∷ [], true)
    tys_behind r at t (v ∷ w ∷ ws) = required (sign_front 44 (v ∷ w ∷ ws)) ExpectedComma at (v ∷ w ∷ ws) >>= λ rest. r.tys at rest >>= λ more. Ok (t ∷ more.0, more.1)

unfoldable pub bound_body : Readers → Reader BoundD
bound_body r at ts =
    choose (lifetime_front ts) (λ l. Ok (bound_lifetime l.0, l.1))
    (path_body r at ts >>= λ p. Ok (bound_trait p.0, p.1))

-- bounds with a `+` between any two, and one more behind the last where you like; where a bound may stand, no `+` does
unfoldable pub bounds_body : Readers → Reader (List BoundD)
bounds_body r at ts =
    cond (bound_next ts)
    (bound_body r at ts >>= λ b.
    choose (sign_front 43 b.1) (λ rest. r.bounds at rest >>= λ more. Ok (b.0 ∷ more.0, more.1)) (Ok (b.0 ∷ [], b.1)))
    (cond (sign_next 43 ts) (missing ExpectedBound at ts) (Ok ([], ts)))

unfoldable pub arguments_body : Readers → Reader ArgumentsD
arguments_body r at ts =
    choose (angle_front ts) (λ a. r.generics at a.1 >>= λ gs. Ok (angle a.0 (generics_of gs.0), gs.1))
    (choose (group_front is_parens ts) (λ g. signature_body r g at >>= λ f. Ok (parens (tys_of f.0) f.1, f.2))
    (Ok (no_arguments, ts)))

unfoldable pub segment_body : Readers → Reader SegmentD
segment_body r at ts =
    required (segment_front ts) ExpectedIdent at ts >>= λ x.
    arguments_body r at x.1 >>= λ a.
    Ok (segment x.0 a.0, a.1)

unfoldable pub segments_body : Readers → Reader (List SegmentD)
segments_body r at ts =
    segment_body r at ts >>= λ s.
    choose (cond (gives_segment s.0) None (further_front s.1)) (λ rest. r.segments at rest >>= λ more. Ok (s.0 ∷ more.0, more.1)) (Ok (s.0 ∷ [], s.1))

-- what is no type: a literal, a `-` and a literal, or a group in braces
abbrev pub constant_front : List Tok → Option (ExprD × List Tok)
constant_front [] = None
constant_front (t ∷ ts) =
    choose (literal_front (t ∷ ts)) (λ l. Some (ex_fixed l.0 l.1, l.2))
    (choose (group_front is_braces (t ∷ ts)) (λ g. Some (ex_verbatim (t ∷ []), g.2))
    (choose (choose (sign_front 45 (t ∷ ts)) literal_front None) (λ l. Some (ex_verbatim (t ∷ fixed l.0 l.1 ∷ []), l.2)) None))

unfoldable pub generic_body : Readers → Reader GenericD
generic_body r at ts =
    choose (lifetime_front ts) (λ l. Ok (arg_lifetime l.0, l.1))
    (choose (constant_front ts) (λ e. Ok (arg_const e.0, e.1))
    (choose (labelled (sign_front 61) (name_front ts)) (λ x.
    choose (constant_front x.1) (λ e. Ok (arg_assoc_const x.0 e.0, e.1)) (r.ty at x.1 >>= λ t. Ok (arg_assoc_ty x.0 t.0, t.1)))
    (choose (labelled colon_front (name_front ts)) (λ x. r.bounds at x.1 >>= λ bs. Ok (arg_constraint x.0 (bounds_of bs.0), bs.1))
    (r.ty at ts >>= λ t. Ok (arg_ty t.0, t.1)))))

-- behind a `<`, up to and with the `>`; with a comma between any two, and one more behind the last where you like
unfoldable pub generics_body : Readers → Reader (List GenericD)
generics_body r at ts =
    choose (sign_front 62 ts) (λ rest. Ok ([], rest))
    (generic_body r at ts >>= λ g.
    choose (sign_front 62 g.1) (λ rest. Ok (g.0 ∷ [], rest))
    (required (sign_front 44 g.1) ExpectedGt at g.1 >>= λ rest. r.generics at rest >>= λ more. Ok (g.0 ∷ more.0, more.1)))
