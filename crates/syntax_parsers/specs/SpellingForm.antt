-- Trees of parsed form, and which tokens spell a tree. That each name, literal and embedded token is one that a text has is
-- said where texts are known.
use Rattle.std.specs.Prelude.{◌≡◌, ◌⊎◌, ℕ, ◌<◌, ◌-◌, suc, nat_eq, List, [], ◌∷◌, Bool, true, false}
use Rattle.token_trees.specs.declared.token.Span.{Span}
use Rattle.token_trees.specs.declared.token.Spacing.{Spacing}
use Rattle.token_trees.specs.declared.token.Delimiter.{Delimiter}
use Rattle.token_trees.specs.declared.token.Delimiter.TheVariants.{Brace}
use Rattle.token_trees.specs.Token.{Tok, mark, fixed, group, Toks, Fixed}
use Rattle.syntax_printing.specs.Print.{position}
use Rattle.syntax_trees.specs.Syntax.{TyD, ty_array, ty_fn, ty_group, ty_impl, ty_infer, ty_macro, ty_never, ty_paren, ty_path, ty_pointer, ty_reference, ty_slice, ty_object, ty_tuple, ty_verbatim, PathD, path, SegmentD, segment, ArgumentsD, no_arguments, angle, parens, GenericD, arg_lifetime, arg_ty, arg_const, arg_assoc_ty, arg_assoc_const, arg_constraint, QSelfD, qself, ExprD, ex_binary, ex_call, ex_cast, ex_field, ex_index, ex_fixed, ex_paren, ex_path, ex_unary, ex_verbatim, ExprPathD, expr_path, BoundD, bound_trait, bound_lifetime, MaybeTy, no_ty, some_ty, MaybeQSelf, no_qself, some_qself, Tys, end_tys, more_tys, Bounds, end_bounds, more_bounds, Segments, end_segments, more_segments, Generics, end_generics, more_generics}
use Rattle.syntax_parsers.specs.Fronts.{is_reserved, is_shown}
use Rattle.syntax_parsers.specs.Grammar.{gives_segment, gives_path}
use Rattle.syntax_parsers.specs.Spelling.{ends_bound, TyThen, PathThen, ExprPathThen, BoundsThen}

abbrev pub has_bounds : Bounds → Bool
has_bounds end_bounds = false
has_bounds (more_bounds b bs) = true

abbrev pub segments_count : Segments → ℕ
segments_count end_segments = 0
segments_count (more_segments s ss) = suc (segments_count ss)

-- whether the segment before these is the last, or the last before the `>`
abbrev pub is_last : ℕ → Segments → Bool
is_last n end_segments = true
is_last n (more_segments s ss) = nat_eq n 1

-- the tokens of a macro: one group in brackets of any kind
abbrev pub IsGroup : List Tok → Type 0
IsGroup m = (d : Delimiter) × (us : Toks) × (s : Span) × (m ≡ group d us s ∷ []) × (is_shown d ≡ true)

-- what stands for a constant where a type could stand: a literal, a `-` and a literal, or one group in braces
abbrev pub IsConstant : ExprD → Type 0
IsConstant (ex_binary a o b) = ⊥
IsConstant (ex_call f xs) = ⊥
IsConstant (ex_cast e t) = ⊥
IsConstant (ex_field e m) = ⊥
IsConstant (ex_index e i) = ⊥
IsConstant (ex_fixed l s) = Unit {0}
IsConstant (ex_paren e) = ⊥
IsConstant (ex_path p) = ⊥
IsConstant (ex_unary o e) = ⊥
IsConstant (ex_verbatim m) = ((j : Spacing) × (s : Span) × (l : Fixed) × (u : Span) × (m ≡ mark 45 j s ∷ fixed l u ∷ [])) ⊎ ((us : Toks) × (s : Span) × (m ≡ group Brace us s ∷ []))

-- All of parsed form but which lengths are paths.
abbrev mutual
  pub TyForm : TyD → Type 0
  TyForm (ty_array t e) = TyForm t × LengthForm e
  TyForm (ty_fn is o) = TysForm is × OutputForm o
  TyForm (ty_group t) = ⊥
  TyForm (ty_impl bs) = (has_bounds bs ≡ true) × BoundsForm bs
  TyForm (ty_infer s) = Unit {0}
  TyForm (ty_macro p m) = PathForm p × (gives_path p ≡ false) × IsGroup m
  TyForm (ty_never s) = Unit {0}
  TyForm (ty_paren t) = TyForm t
  TyForm (ty_path q p) = FrontForm q p × BehindForm (position q) p
  TyForm (ty_pointer m t) = TyForm t
  TyForm (ty_reference l m t) = TyForm t
  TyForm (ty_slice t) = TyForm t
  TyForm (ty_object bs) = (has_bounds bs ≡ true) × BoundsForm bs
  TyForm (ty_tuple is) = TysForm is
  TyForm (ty_verbatim m) = ⊥

  pub OutputForm : MaybeTy → Type 0
  OutputForm no_ty = Unit {0}
  OutputForm (some_ty t) = TyForm t

  pub TysForm : Tys → Type 0
  TysForm end_tys = Unit {0}
  TysForm (more_tys t is) = TyForm t × TysForm is

  pub BoundForm : BoundD → Type 0
  BoundForm (bound_trait p) = PathForm p
  BoundForm (bound_lifetime l) = Unit {0}

  -- a bound that a `+` follows doesn't end in a trait object or an `impl`
  pub BoundsForm : Bounds → Type 0
  BoundsForm end_bounds = Unit {0}
  BoundsForm (more_bounds b bs) = BoundForm b × (has_bounds bs ≡ true → ends_bound b ≡ false) × BoundsForm bs

  -- the position is below the number of segments, and where it is 0 the path has a leading `::`
  pub FrontForm : MaybeQSelf → PathD → Type 0
  FrontForm no_qself p = Unit {0}
  FrontForm (some_qself q) p = QSelfForm q p

  pub QSelfForm : QSelfD → PathD → Type 0
  QSelfForm (qself t n) (path l ss) = TyForm t × (n < segments_count ss) × (n ≡ 0 → l ≡ true)

  pub PathForm : PathD → Type 0
  PathForm (path l ss) = (0 < segments_count ss) × SegmentsForm 0 ss

  pub BehindForm : ℕ → PathD → Type 0
  BehindForm n (path l ss) = (0 < segments_count ss) × SegmentsForm n ss

  -- a segment whose end takes a `::` is the last, or the last before the `>`
  pub SegmentsForm : ℕ → Segments → Type 0
  SegmentsForm n end_segments = Unit {0}
  SegmentsForm n (more_segments s ss) = SegmentForm s × (gives_segment s ≡ true → is_last n ss ≡ true) × SegmentsForm (n - 1) ss

  pub SegmentForm : SegmentD → Type 0
  SegmentForm (segment x a) = (is_reserved x.text ≡ false) × ArgumentsForm a

  pub ArgumentsForm : ArgumentsD → Type 0
  ArgumentsForm no_arguments = Unit {0}
  ArgumentsForm (angle t gs) = GenericsForm gs
  ArgumentsForm (parens is o) = TysForm is × OutputForm o

  pub GenericsForm : Generics → Type 0
  GenericsForm end_generics = Unit {0}
  GenericsForm (more_generics g gs) = GenericForm g × GenericsForm gs

  -- what can be a type is held as one
  pub GenericForm : GenericD → Type 0
  GenericForm (arg_lifetime l) = Unit {0}
  GenericForm (arg_ty t) = TyForm t
  GenericForm (arg_const e) = IsConstant e
  GenericForm (arg_assoc_ty x t) = TyForm t
  GenericForm (arg_assoc_const x e) = IsConstant e
  GenericForm (arg_constraint x bs) = BoundsForm bs

  -- a literal, a path, or one or more tokens
  pub LengthForm : ExprD → Type 0
  LengthForm (ex_binary a o b) = ⊥
  LengthForm (ex_call f xs) = ⊥
  LengthForm (ex_cast e t) = ⊥
  LengthForm (ex_field e m) = ⊥
  LengthForm (ex_index e i) = ⊥
  LengthForm (ex_fixed l s) = Unit {0}
  LengthForm (ex_paren e) = ⊥
  LengthForm (ex_path p) = ExprPathForm p
  LengthForm (ex_unary o e) = ⊥
  LengthForm (ex_verbatim m) = (t : Tok) × (ts : List Tok) × (m ≡ t ∷ ts)

  pub ExprPathForm : ExprPathD → Type 0
  ExprPathForm (expr_path q p) = FrontForm q p × BehindForm (position q) p

-- that no literal and no path is a printing of the tokens
abbrev pub IsNoLiteral : List Tok → Type 0
IsNoLiteral m = (l : Fixed) (s : Span) → m ≡ fixed l s ∷ [] → ⊥

abbrev pub IsNoPath : List Tok → Type 0
IsNoPath m = (p : ExprPathD) → ExprPathForm p → ExprPathThen p m [] → ⊥

-- Each length that can be a literal is held as a literal, and each other that can be a path as a path.
abbrev mutual
  pub TyLengths : TyD → Type 0
  TyLengths (ty_array t e) = TyLengths t × LengthHeld e
  TyLengths (ty_fn is o) = TysLengths is × OutputLengths o
  TyLengths (ty_group t) = TyLengths t
  TyLengths (ty_impl bs) = BoundsLengths bs
  TyLengths (ty_infer s) = Unit {0}
  TyLengths (ty_macro p m) = PathLengths p
  TyLengths (ty_never s) = Unit {0}
  TyLengths (ty_paren t) = TyLengths t
  TyLengths (ty_path q p) = FrontLengths q × PathLengths p
  TyLengths (ty_pointer m t) = TyLengths t
  TyLengths (ty_reference l m t) = TyLengths t
  TyLengths (ty_slice t) = TyLengths t
  TyLengths (ty_object bs) = BoundsLengths bs
  TyLengths (ty_tuple is) = TysLengths is
  TyLengths (ty_verbatim m) = Unit {0}

  pub OutputLengths : MaybeTy → Type 0
  OutputLengths no_ty = Unit {0}
  OutputLengths (some_ty t) = TyLengths t

  pub TysLengths : Tys → Type 0
  TysLengths end_tys = Unit {0}
  TysLengths (more_tys t is) = TyLengths t × TysLengths is

  pub BoundLengths : BoundD → Type 0
  BoundLengths (bound_trait p) = PathLengths p
  BoundLengths (bound_lifetime l) = Unit {0}

  pub BoundsLengths : Bounds → Type 0
  BoundsLengths end_bounds = Unit {0}
  BoundsLengths (more_bounds b bs) = BoundLengths b × BoundsLengths bs

  pub FrontLengths : MaybeQSelf → Type 0
  FrontLengths no_qself = Unit {0}
  FrontLengths (some_qself q) = QSelfLengths q

  pub QSelfLengths : QSelfD → Type 0
  QSelfLengths (qself t n) = TyLengths t

  pub PathLengths : PathD → Type 0
  PathLengths (path l ss) = SegmentsLengths ss

  pub SegmentsLengths : Segments → Type 0
  SegmentsLengths end_segments = Unit {0}
  SegmentsLengths (more_segments s ss) = SegmentLengths s × SegmentsLengths ss

  pub SegmentLengths : SegmentD → Type 0
  SegmentLengths (segment x a) = ArgumentsLengths a

  pub ArgumentsLengths : ArgumentsD → Type 0
  ArgumentsLengths no_arguments = Unit {0}
  ArgumentsLengths (angle t gs) = GenericsLengths gs
  ArgumentsLengths (parens is o) = TysLengths is × OutputLengths o

  pub GenericsLengths : Generics → Type 0
  GenericsLengths end_generics = Unit {0}
  GenericsLengths (more_generics g gs) = GenericLengths g × GenericsLengths gs

  pub GenericLengths : GenericD → Type 0
  GenericLengths (arg_lifetime l) = Unit {0}
  GenericLengths (arg_ty t) = TyLengths t
  GenericLengths (arg_const e) = Unit {0}
  GenericLengths (arg_assoc_ty x t) = TyLengths t
  GenericLengths (arg_assoc_const x e) = Unit {0}
  GenericLengths (arg_constraint x bs) = BoundsLengths bs

  pub LengthHeld : ExprD → Type 0
  LengthHeld (ex_binary a o b) = ⊥
  LengthHeld (ex_call f xs) = ⊥
  LengthHeld (ex_cast e t) = ⊥
  LengthHeld (ex_field e m) = ⊥
  LengthHeld (ex_index e i) = ⊥
  LengthHeld (ex_fixed l s) = Unit {0}
  LengthHeld (ex_paren e) = ⊥
  LengthHeld (ex_path p) = ExprPathLengths p
  LengthHeld (ex_unary o e) = ⊥
  LengthHeld (ex_verbatim m) = IsNoLiteral m × IsNoPath m

  pub ExprPathLengths : ExprPathD → Type 0
  ExprPathLengths (expr_path q p) = FrontLengths q × PathLengths p

-- parsed form of each kind of tree
abbrev pub IsParsedTy : TyD → Type 0
IsParsedTy t = TyForm t × TyLengths t

abbrev pub IsParsedPath : PathD → Type 0
IsParsedPath p = PathForm p × PathLengths p

abbrev pub IsParsedExprPath : ExprPathD → Type 0
IsParsedExprPath p = ExprPathForm p × ExprPathLengths p

abbrev pub IsParsedBounds : Bounds → Type 0
IsParsedBounds bs = BoundsForm bs × BoundsLengths bs

-- Tokens spell a tree: it is of parsed form, and they are a printing of it.
abbrev pub SpellsTy : List Tok → TyD → Type 0
SpellsTy ts t = IsParsedTy t × TyThen t ts []

abbrev pub SpellsPath : List Tok → PathD → Type 0
SpellsPath ts p = IsParsedPath p × PathThen p ts []

abbrev pub SpellsExprPath : List Tok → ExprPathD → Type 0
SpellsExprPath ts p = IsParsedExprPath p × ExprPathThen p ts []

abbrev pub SpellsBounds : List Tok → Bounds → Type 0
SpellsBounds ts bs = IsParsedBounds bs × BoundsThen bs ts []
