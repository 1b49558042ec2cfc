-- Which tokens are a printing of a tree. `XThen x ts rest` says: the tokens ts begin with a printing of x, and rest stands behind
-- it. A name, a lifetime and a literal of the tree have the places of their tokens; of the characters, words and groups that the
-- tree itself prints, the place says nothing, and the spacing of a character only where it is the first of `::` or `->` or the
-- quote of a lifetime. A separated list of one or more elements may end in one more separator, but the `+` behind a trait object
-- or an `impl` belongs to that one, and what can be a bound behind a `+` is the next.
use Rattle.std.specs.Prelude.{◌≡◌, ◌⊎◌, ℕ, ◌-◌, List, [], ◌∷◌, ◌++◌, Bool, true, false, Option, Some, None, cond, codes, nat_eq}
use Rattle.token_trees.specs.declared.token.Span.{Span}
use Rattle.token_trees.specs.declared.token.Spacing.{Spacing}
use Rattle.token_trees.specs.declared.token.Spacing.TheVariants.{Joint}
use Rattle.token_trees.specs.declared.token.Delimiter.{Delimiter}
use Rattle.token_trees.specs.declared.token.Delimiter.TheVariants.{Parenthesis, Bracket}
use Rattle.token_trees.specs.Token.{Tok, word, mark, fixed, group, Toks, list_of, Name}
use Rattle.syntax_printing.specs.Print.{position}
use Rattle.syntax_trees.specs.Syntax.{LifetimeD, TyD, ty_array, ty_fn, ty_group, ty_impl, ty_infer, ty_macro, ty_never, ty_paren, ty_path, ty_pointer, ty_reference, ty_slice, ty_object, ty_tuple, ty_verbatim, PathD, path, SegmentD, segment, ArgumentsD, no_arguments, angle, parens, GenericD, arg_lifetime, arg_ty, arg_const, arg_assoc_ty, arg_assoc_const, arg_constraint, QSelfD, qself, ExprD, ex_binary, ex_call, ex_cast, ex_field, ex_index, ex_fixed, ex_paren, ex_path, ex_unary, ex_verbatim, ExprPathD, expr_path, BoundD, bound_trait, bound_lifetime, MaybeTy, no_ty, some_ty, MaybeQSelf, no_qself, some_qself, Tys, end_tys, more_tys, Bounds, end_bounds, more_bounds, Segments, end_segments, more_segments, Generics, end_generics, more_generics}
use Rattle.syntax_parsers.specs.Fronts.{bound_next}

abbrev pub SignThen : ℕ → List Tok → List Tok → Type 0
SignThen c ts rest = (j : Spacing) × (s : Span) × (ts ≡ mark c j s ∷ rest)

-- two characters, of which the first belongs to the second
abbrev pub PairThen : ℕ → ℕ → List Tok → List Tok → Type 0
PairThen c d ts rest = (s : Span) × (j : Spacing) × (u : Span) × (ts ≡ mark c Joint s ∷ mark d j u ∷ rest)

-- a word of the tree's own
abbrev pub WordThen : List ℕ → List Tok → List Tok → Type 0
WordThen x ts rest = (s : Span) × (ts ≡ word x s ∷ rest)

abbrev pub NameThen : Name → List Tok → List Tok → Type 0
NameThen x ts rest = ts ≡ word x.text x.span ∷ rest

abbrev pub LifetimeThen : LifetimeD → List Tok → List Tok → Type 0
LifetimeThen l ts rest = ts ≡ mark 39 Joint l.span ∷ word l.name.text l.name.span ∷ rest

abbrev pub GroupThen : Delimiter → Toks → List Tok → List Tok → Type 0
GroupThen d us ts rest = (s : Span) × (ts ≡ group d us s ∷ rest)

abbrev pub MaybeLifetimeThen : Option LifetimeD → List Tok → List Tok → Type 0
MaybeLifetimeThen None ts rest = ts ≡ rest
MaybeLifetimeThen (Some l) ts rest = LifetimeThen l ts rest

abbrev pub MutThen : Bool → List Tok → List Tok → Type 0
MutThen false ts rest = ts ≡ rest
MutThen true ts rest = WordThen (codes "mut") ts rest

abbrev pub ColonsThen : Bool → List Tok → List Tok → Type 0
ColonsThen false ts rest = ts ≡ rest
ColonsThen true ts rest = PairThen 58 58 ts rest

-- the `>` behind the first segments of a qualified path
abbrev pub CloseThen : Bool → List Tok → List Tok → Type 0
CloseThen false ts rest = ts ≡ rest
CloseThen true ts rest = SignThen 62 ts rest

-- the last comma before an end
abbrev pub LastComma : Bool → List Tok → Type 0
LastComma false ts = ts ≡ []
LastComma true ts = SignThen 44 ts []

-- A tuple of one has its comma.
abbrev pub is_one : Tys → Bool
is_one end_tys = false
is_one (more_tys t end_tys) = true
is_one (more_tys t (more_tys u us)) = false

-- Whether a printing ends in the bounds of a trait object or an `impl`. Of segments, `was` says it of the one before.
abbrev mutual
  pub ends_ty : TyD → Bool
  ends_ty (ty_array t e) = false
  ends_ty (ty_fn ts o) = ends_output o
  ends_ty (ty_group t) = false
  ends_ty (ty_impl bs) = true
  ends_ty (ty_infer s) = false
  ends_ty (ty_macro p m) = false
  ends_ty (ty_never s) = false
  ends_ty (ty_paren t) = false
  ends_ty (ty_path q p) = ends_path p
  ends_ty (ty_pointer m t) = ends_ty t
  ends_ty (ty_reference l m t) = ends_ty t
  ends_ty (ty_slice t) = false
  ends_ty (ty_object bs) = true
  ends_ty (ty_tuple ts) = false
  ends_ty (ty_verbatim m) = false

  pub ends_output : MaybeTy → Bool
  ends_output no_ty = false
  ends_output (some_ty t) = ends_ty t

  pub ends_path : PathD → Bool
  ends_path (path l ss) = ends_segments false ss

  pub ends_segments : Bool → Segments → Bool
  ends_segments was end_segments = was
  ends_segments was (more_segments s ss) = ends_segments (ends_segment s) ss

  pub ends_segment : SegmentD → Bool
  ends_segment (segment x a) = ends_arguments a

  pub ends_arguments : ArgumentsD → Bool
  ends_arguments no_arguments = false
  ends_arguments (angle t gs) = false
  ends_arguments (parens ts o) = ends_output o

abbrev pub ends_bound : BoundD → Bool
ends_bound (bound_trait p) = ends_path p
ends_bound (bound_lifetime l) = false

abbrev mutual
  pub TyThen : TyD → List Tok → List Tok → Type 0
  TyThen (ty_array t e) ts rest = (us : Toks) × (a b : List Tok) × GroupThen Bracket us ts rest × TyThen t (list_of us) a × SignThen 59 a b × ExprThen e b []
  TyThen (ty_fn is o) ts rest = (us : Toks) × (c : Bool) × (a b : List Tok) × WordThen (codes "fn") ts a × GroupThen Parenthesis us a b × TysThen c is (list_of us) × OutputThen o b rest
  TyThen (ty_group t) ts rest = ⊥
  TyThen (ty_impl bs) ts rest = (a : List Tok) × WordThen (codes "impl") ts a × BoundsThen bs a rest
  TyThen (ty_infer s) ts rest = ts ≡ word (codes "_") s ∷ rest
  TyThen (ty_macro p m) ts rest = (a b : List Tok) × PathThen p ts a × SignThen 33 a b × (b ≡ m ++ rest)
  TyThen (ty_never s) ts rest = (j : Spacing) × (ts ≡ mark 33 j s ∷ rest)
  TyThen (ty_paren t) ts rest = (us : Toks) × GroupThen Parenthesis us ts rest × TyThen t (list_of us) []
  TyThen (ty_path q p) ts rest = (a : List Tok) × FrontThen q ts a × BehindThen (position q) p a rest
  TyThen (ty_pointer m t) ts rest = (a b : List Tok) × SignThen 42 ts a × WordThen (cond m (codes "mut") (codes "const")) a b × TyThen t b rest
  TyThen (ty_reference l m t) ts rest = (a b c : List Tok) × SignThen 38 ts a × MaybeLifetimeThen l a b × MutThen m b c × TyThen t c rest
  TyThen (ty_slice t) ts rest = (us : Toks) × GroupThen Bracket us ts rest × TyThen t (list_of us) []
  TyThen (ty_object bs) ts rest = (a : List Tok) × WordThen (codes "dyn") ts a × BoundsThen bs a rest
  -- a tuple of one has its comma
  TyThen (ty_tuple is) ts rest = (us : Toks) × (c : Bool) × GroupThen Parenthesis us ts rest × TysThen c is (list_of us) × (is_one is ≡ true → c ≡ true)
  TyThen (ty_verbatim m) ts rest = ⊥

  pub OutputThen : MaybeTy → List Tok → List Tok → Type 0
  OutputThen no_ty ts rest = ts ≡ rest
  OutputThen (some_ty t) ts rest = (a : List Tok) × PairThen 45 62 ts a × TyThen t a rest

  -- all tokens of a group: types with a comma between any two, and behind the last where c says so
  pub TysThen : Bool → Tys → List Tok → Type 0
  TysThen c end_tys ts = (ts ≡ []) × (c ≡ false)
  TysThen c (more_tys t is) ts = (a : List Tok) × TyThen t ts a × TysBehind c is a

  pub TysBehind : Bool → Tys → List Tok → Type 0
  TysBehind c end_tys ts = LastComma c ts
  TysBehind c (more_tys t is) ts = (a b : List Tok) × SignThen 44 ts a × TyThen t a b × TysBehind c is b

  pub BoundThen : BoundD → List Tok → List Tok → Type 0
  BoundThen (bound_trait p) ts rest = PathThen p ts rest
  BoundThen (bound_lifetime l) ts rest = LifetimeThen l ts rest

  pub BoundsThen : Bounds → List Tok → List Tok → Type 0
  BoundsThen end_bounds ts rest = ts ≡ rest
  BoundsThen (more_bounds b bs) ts rest = (a : List Tok) × BoundThen b ts a × BoundsBehind (ends_bound b) bs a rest

  -- behind a bound of which `open` says whether it ends in a trait object or an `impl`
  pub BoundsBehind : Bool → Bounds → List Tok → List Tok → Type 0
  BoundsBehind «open» end_bounds ts rest = (ts ≡ rest) ⊎ SignThen 43 ts rest × («open» ≡ false) × (bound_next rest ≡ false)
  BoundsBehind «open» (more_bounds b bs) ts rest = (a c : List Tok) × SignThen 43 ts a × BoundThen b a c × BoundsBehind (ends_bound b) bs c rest

  -- `<T as`, or `<T>` where no segment lies before the `>`
  pub QSelfThen : QSelfD → List Tok → List Tok → Type 0
  QSelfThen (qself t n) ts rest = (a b : List Tok) × SignThen 60 ts a × TyThen t a b × cond (nat_eq n 0) (SignThen 62 b rest) (WordThen (codes "as") b rest)

  pub FrontThen : MaybeQSelf → List Tok → List Tok → Type 0
  FrontThen no_qself ts rest = ts ≡ rest
  FrontThen (some_qself q) ts rest = QSelfThen q ts rest

  pub PathThen : PathD → List Tok → List Tok → Type 0
  PathThen (path l ss) ts rest = SegmentsThen 0 l ss ts rest

  -- n segments lie before the `>`; none of it where n is 0
  pub BehindThen : ℕ → PathD → List Tok → List Tok → Type 0
  BehindThen n (path l ss) ts rest = SegmentsThen n l ss ts rest

  -- `between` says whether `::` stands before the first too
  pub SegmentsThen : ℕ → Bool → Segments → List Tok → List Tok → Type 0
  SegmentsThen n between end_segments ts rest = ts ≡ rest
  SegmentsThen n between (more_segments s ss) ts rest = (a b c : List Tok) × ColonsThen between ts a × SegmentThen s a b × CloseThen (nat_eq n 1) b c × SegmentsThen (n - 1) true ss c rest

  pub SegmentThen : SegmentD → List Tok → List Tok → Type 0
  SegmentThen (segment x a) ts rest = (b : List Tok) × NameThen x ts b × ArgumentsThen a b rest

  pub ArgumentsThen : ArgumentsD → List Tok → List Tok → Type 0
  ArgumentsThen no_arguments ts rest = ts ≡ rest
  ArgumentsThen (angle t gs) ts rest = (a b : List Tok) × ColonsThen t ts a × SignThen 60 a b × GenericsThen gs b rest
  ArgumentsThen (parens is o) ts rest = (us : Toks) × (c : Bool) × (a : List Tok) × GroupThen Parenthesis us ts a × TysThen c is (list_of us) × OutputThen o a rest

  -- up to and with the `>`
  pub GenericsThen : Generics → List Tok → List Tok → Type 0
  GenericsThen end_generics ts rest = SignThen 62 ts rest
  GenericsThen (more_generics g gs) ts rest = (a : List Tok) × GenericThen g ts a × GenericsBehind gs a rest

  pub GenericsBehind : Generics → List Tok → List Tok → Type 0
  GenericsBehind end_generics ts rest = (a : List Tok) × ((ts ≡ a) ⊎ SignThen 44 ts a) × SignThen 62 a rest
  GenericsBehind (more_generics g gs) ts rest = (a b : List Tok) × SignThen 44 ts a × GenericThen g a b × GenericsBehind gs b rest

  pub GenericThen : GenericD → List Tok → List Tok → Type 0
  GenericThen (arg_lifetime l) ts rest = LifetimeThen l ts rest
  GenericThen (arg_ty t) ts rest = TyThen t ts rest
  GenericThen (arg_const e) ts rest = ExprThen e ts rest
  GenericThen (arg_assoc_ty x t) ts rest = (a b : List Tok) × NameThen x ts a × SignThen 61 a b × TyThen t b rest
  GenericThen (arg_assoc_const x e) ts rest = (a b : List Tok) × NameThen x ts a × SignThen 61 a b × ExprThen e b rest
  GenericThen (arg_constraint x bs) ts rest = (a b : List Tok) × NameThen x ts a × SignThen 58 a b × BoundsThen bs b rest

  -- a literal, a path, or tokens as they stand: types hold no other expressions
  pub ExprThen : ExprD → List Tok → List Tok → Type 0
  ExprThen (ex_binary a o b) ts rest = ⊥
  ExprThen (ex_call f xs) ts rest = ⊥
  ExprThen (ex_cast e t) ts rest = ⊥
  ExprThen (ex_field e m) ts rest = ⊥
  ExprThen (ex_index e i) ts rest = ⊥
  ExprThen (ex_fixed l s) ts rest = ts ≡ fixed l s ∷ rest
  ExprThen (ex_paren e) ts rest = ⊥
  ExprThen (ex_path p) ts rest = ExprPathThen p ts rest
  ExprThen (ex_unary o e) ts rest = ⊥
  ExprThen (ex_verbatim m) ts rest = ts ≡ m ++ rest

  pub ExprPathThen : ExprPathD → List Tok → List Tok → Type 0
  ExprPathThen (expr_path q p) ts rest = (a : List Tok) × FrontThen q ts a × BehindThen (position q) p a rest
