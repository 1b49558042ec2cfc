-- What syntax trees are to contracts.
use Rattle.std.specs.Prelude.{◌≡◌, ℕ, List, [], ◌∷◌, Bool, true, false, Option}
use Rattle.token_trees.specs.declared.token.Span.{Span}
use Rattle.token_trees.specs.Token.{Tok, Fixed, Name}

-- a lifetime: its name, and its own span
pub record LifetimeD : Type 0 where
  pub name : Name
  pub span : Span

-- a string literal: its text, what follows it at once, its place
pub record LitStrD : Type 0 where
  pub text : List ℕ
  pub suffix : List ℕ
  pub span : Span

pub data MemberD : Type 0 where
  named : Name → MemberD
  unnamed : ℕ → MemberD

mutual
  pub data TyD : Type 0 where
    ty_array : TyD → ExprD → TyD
    ty_fn : Tys → MaybeTy → TyD
    ty_group : TyD → TyD
    ty_impl : Bounds → TyD
    ty_infer : Span → TyD
    ty_macro : PathD → List Tok → TyD
    ty_never : Span → TyD
    ty_paren : TyD → TyD
    ty_path : MaybeQSelf → PathD → TyD
    ty_pointer : Bool → TyD → TyD
    ty_reference : Option LifetimeD → Bool → TyD → TyD
    ty_slice : TyD → TyD
    ty_object : Bounds → TyD
    ty_tuple : Tys → TyD
    ty_verbatim : List Tok → TyD

  pub data PathD : Type 0 where
    path : Bool → Segments → PathD

  pub data SegmentD : Type 0 where
    segment : Name → ArgumentsD → SegmentD

  pub data ArgumentsD : Type 0 where
    no_arguments : ArgumentsD
    angle : Bool → Generics → ArgumentsD
    parens : Tys → MaybeTy → ArgumentsD

  pub data GenericD : Type 0 where
    arg_lifetime : LifetimeD → GenericD
    arg_ty : TyD → GenericD
    arg_const : ExprD → GenericD
    arg_assoc_ty : Name → TyD → GenericD
    arg_assoc_const : Name → ExprD → GenericD
    arg_constraint : Name → Bounds → GenericD

  pub data QSelfD : Type 0 where
    qself : TyD → ℕ → QSelfD

  pub data ExprD : Type 0 where
    ex_binary : ExprD → List Tok → ExprD → ExprD
    ex_call : ExprD → Exprs → ExprD
    ex_cast : ExprD → TyD → ExprD
    ex_field : ExprD → MemberD → ExprD
    ex_index : ExprD → ExprD → ExprD
    ex_fixed : Fixed → Span → ExprD
    ex_paren : ExprD → ExprD
    ex_path : ExprPathD → ExprD
    ex_unary : List Tok → ExprD → ExprD
    ex_verbatim : List Tok → ExprD

  pub data ExprPathD : Type 0 where
    expr_path : MaybeQSelf → PathD → ExprPathD

  pub data BoundD : Type 0 where
    bound_trait : PathD → BoundD
    bound_lifetime : LifetimeD → BoundD

  pub data MaybeTy : Type 0 where
    no_ty : MaybeTy
    some_ty : TyD → MaybeTy

  pub data MaybeQSelf : Type 0 where
    no_qself : MaybeQSelf
    some_qself : QSelfD → MaybeQSelf

  pub data Tys : Type 0 where
    end_tys : Tys
    more_tys : TyD → Tys → Tys

  pub data Bounds : Type 0 where
    end_bounds : Bounds
    more_bounds : BoundD → Bounds → Bounds

  pub data Segments : Type 0 where
    end_segments : Segments
    more_segments : SegmentD → Segments → Segments

  pub data Generics : Type 0 where
    end_generics : Generics
    more_generics : GenericD → Generics → Generics

  pub data Exprs : Type 0 where
    end_exprs : Exprs
    more_exprs : ExprD → Exprs → Exprs

abbrev pub tys_of : List TyD → Tys
tys_of [] = end_tys
tys_of (t ∷ ts) = more_tys t (tys_of ts)

abbrev pub bounds_of : List BoundD → Bounds
bounds_of [] = end_bounds
bounds_of (b ∷ bs) = more_bounds b (bounds_of bs)

abbrev pub segments_of : List SegmentD → Segments
segments_of [] = end_segments
segments_of (s ∷ ss) = more_segments s (segments_of ss)

abbrev pub generics_of : List GenericD → Generics
generics_of [] = end_generics
generics_of (g ∷ gs) = more_generics g (generics_of gs)

abbrev pub exprs_of : List ExprD → Exprs
exprs_of [] = end_exprs
exprs_of (e ∷ es) = more_exprs e (exprs_of es)

abbrev pub has_no_arguments : SegmentD → Bool
has_no_arguments (segment n no_arguments) = true
has_no_arguments (segment n (angle t gs)) = false
has_no_arguments (segment n (parens ts o)) = false

abbrev pub segment_name : SegmentD → List ℕ
segment_name (segment n rest) = n.text

-- no leading `::`, one segment, no arguments, and that identifier
abbrev pub IsLone : Bool → List ℕ → Segments → Type 0
IsLone leading n end_segments = ⊥
IsLone leading n (more_segments s end_segments) = (leading ≡ false) × (has_no_arguments s ≡ true) × (segment_name s ≡ n)
IsLone leading n (more_segments s (more_segments t ss)) = ⊥

abbrev pub IsWord : List ℕ → PathD → Type 0
IsWord n (path leading ss) = IsLone leading n ss
