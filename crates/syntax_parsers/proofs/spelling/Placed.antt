-- What stands behind a tree, and whether the tree takes it, hangs on no span.
use Rattle.std.proofs.Common.{◌≡◌, ◌||◌, ℕ, List, [], ◌∷◌, map, Bool, true, false, Option, Some, None, cond, refl, ap, sym, ◌∙◌}
use Rattle.std.specs.Prelude.{is_some}
use Rattle.token_trees.specs.declared.token.Span.{Span}
use Rattle.token_trees.specs.Token.{Tok, word, mark, fixed, group, Name, placed, site, span_of}
use Rattle.syntax_trees.specs.Syntax.{TyD, ty_array, ty_fn, ty_group, ty_impl, ty_infer, ty_macro, ty_never, ty_paren, ty_path, ty_pointer, ty_reference, ty_slice, ty_object, ty_tuple, ty_verbatim, PathD, path, SegmentD, segment, ArgumentsD, no_arguments, angle, parens, BoundD, bound_trait, bound_lifetime, MaybeTy, no_ty, some_ty, no_qself, some_qself, Bounds, end_bounds, more_bounds, Segments, end_segments, more_segments}
use Rattle.syntax_trees.specs.Metas.{is_sign, is_joint_sign, sign_next}
use Rattle.syntax_parsers.specs.Fronts.{sign_front, name_front, quoted, lifetime_front, segment_front, further_front, bound_next, is_reserved}
use Rattle.syntax_parsers.specs.Grammar.{takes_ty, takes_output, takes_bounds, takes_bound, takes_path, takes_segment, takes_arguments, gives_segment, gives_last, gives_path}
use Rattle.syntax_parsers.specs.SpellingAside.{ty_at, output_at, bound_at, bounds_at, path_at, segments_at, segment_at, arguments_at, SameToks, SamePath}
use Rattle.syntax_parsers.proofs.spelling.Halts.{unless_third}

mutual
  ty_placed : (s : Span) (c : Bool) (t : TyD) → takes_ty c (ty_at s t) ≡ takes_ty c t
  ty_placed s c (ty_array t e) = refl
  ty_placed s c (ty_fn is o) = output_placed s c o
  ty_placed s c (ty_group t) = refl
  ty_placed s c (ty_impl bs) = bounds_placed s c false bs
  ty_placed s c (ty_infer u) = refl
  ty_placed s c (ty_macro p m) = refl
  ty_placed s c (ty_never u) = refl
  ty_placed s c (ty_paren t) = refl
  ty_placed s c (ty_path no_qself p) = refl
  ty_placed s c (ty_path (some_qself q) p) = path_placed s c p
  ty_placed s c (ty_pointer m t) = ty_placed s c t
  ty_placed s c (ty_reference l m t) = ty_placed s c t
  ty_placed s c (ty_slice t) = refl
  ty_placed s c (ty_object bs) = bounds_placed s c false bs
  ty_placed s c (ty_tuple is) = refl
  ty_placed s c (ty_verbatim m) = refl

  output_placed : (s : Span) (c : Bool) (o : MaybeTy) → takes_output c (output_at s o) ≡ takes_output c o
  output_placed s c no_ty = refl
  output_placed s c (some_ty t) = ty_placed s c t

  bounds_placed : (s : Span) (c was : Bool) (bs : Bounds) → takes_bounds c was (bounds_at s bs) ≡ takes_bounds c was bs
  bounds_placed s c was end_bounds = refl
  bounds_placed s c was (more_bounds b bs) = bounds_placed s c (takes_bound c (bound_at s b)) bs ∙ ap (λ z. takes_bounds c z bs) (bound_placed s c b)

  bound_placed : (s : Span) (c : Bool) (b : BoundD) → takes_bound c (bound_at s b) ≡ takes_bound c b
  bound_placed s c (bound_trait p) = path_placed s c p
  bound_placed s c (bound_lifetime l) = refl

  path_placed : (s : Span) (c : Bool) (p : PathD) → takes_path c (path_at s p) ≡ takes_path c p
  path_placed s c (path l ss) = ap (λ z. cond c z true) (last_placed s false ss)

  last_placed : (s : Span) (was : Bool) (ss : Segments) → gives_last was (segments_at s ss) ≡ gives_last was ss
  last_placed s was end_segments = refl
  last_placed s was (more_segments x ss) = last_placed s (takes_segment true (segment_at s x)) ss ∙ ap (λ z. gives_last z ss) (segment_placed s true x)

  segment_placed : (s : Span) (c : Bool) (x : SegmentD) → takes_segment c (segment_at s x) ≡ takes_segment c x
  segment_placed s c (segment x a) = arguments_placed s c a

  arguments_placed : (s : Span) (c : Bool) (a : ArgumentsD) → takes_arguments c (arguments_at s a) ≡ takes_arguments c a
  arguments_placed s c no_arguments = refl
  arguments_placed s c (angle t gs) = refl
  arguments_placed s c (parens is o) = output_placed s c o

pub path_gives : (p q : PathD) → SamePath p q → gives_path q ≡ gives_path p
path_gives p q e = sym (path_placed site true q) ∙ ap gives_path (sym e) ∙ path_placed site true p

pub segment_gives : (s u : SegmentD) → segment_at site s ≡ segment_at site u → gives_segment u ≡ gives_segment s
segment_gives s u e = sym (segment_placed site false u) ∙ ap gives_segment (sym e) ∙ segment_placed site false s

-- what can be a bound

abbrev bare : List Tok → List Tok
bare ts = map (placed site) ts

name_bare : (ts : List Tok) → is_some (name_front (bare ts)) ≡ is_some (name_front ts)
name_bare [] = refl
name_bare (word x s ∷ ts) = refl
name_bare (mark c j s ∷ ts) = refl
name_bare (fixed l s ∷ ts) = refl
name_bare (group d us s ∷ ts) = refl

joint_bare : (c : ℕ) (t : Tok) → is_joint_sign c (placed site t) ≡ is_joint_sign c t
joint_bare c (word x s) = refl
joint_bare c (mark d j s) = refl
joint_bare c (fixed l s) = refl
joint_bare c (group d us s) = refl

sign_bare : (c : ℕ) (t : Tok) → is_sign c (placed site t) ≡ is_sign c t
sign_bare c (word x s) = refl
sign_bare c (mark d j s) = refl
sign_bare c (fixed l s) = refl
sign_bare c (group d us s) = refl

next_bare : (c : ℕ) (ts : List Tok) → sign_next c (bare ts) ≡ sign_next c ts
next_bare c [] = refl
next_bare c (t ∷ ts) = sign_bare c t

there : {A : Type 0} → (b : Bool) (o : Option A) → is_some (cond b o None) ≡ cond b (is_some o) false
there true o = refl
there false o = refl

quote_there : (s : Span) (o : Option (Name × List Tok)) → is_some (quoted s o) ≡ is_some o
quote_there s None = refl
quote_there s (Some (x, ts)) = refl

two_conds : {a b : Bool} {x y : Bool} → a ≡ b → x ≡ y → cond a x false ≡ cond b y false
two_conds p q = cc

lifetime_there : (t : Tok) (ts : List Tok) → is_some (lifetime_front (t ∷ ts)) ≡ cond (is_joint_sign 39 t) (is_some (name_front ts)) false
lifetime_there t ts = there (is_joint_sign 39 t) (quoted (span_of t) (name_front ts)) ∙ ap (λ z. cond (is_joint_sign 39 t) z false) (quote_there (span_of t) (name_front ts))

lifetime_bare : (ts : List Tok) → is_some (lifetime_front (bare ts)) ≡ is_some (lifetime_front ts)
lifetime_bare [] = refl
lifetime_bare (t ∷ ts) = lifetime_there (placed site t) (bare ts) ∙ two_conds (joint_bare 39 t) (name_bare ts) ∙ sym (lifetime_there t ts)

third : (b : Bool) (o : Option (List Tok)) → is_some (unless_third (cond b o None)) ≡ cond b (is_some (unless_third o)) false
third true o = refl
third false o = refl

second : (b : Bool) (ts : List Tok) → is_some (unless_third (cond b (Some ts) None)) ≡ cond b (cond (sign_next 58 ts) false true) false
second true ts = last (sign_next 58 ts)
  where
    last : (c : Bool) → is_some (cond c None (Some ts)) ≡ cond c false true
    last true = refl
    last false = refl
second false ts = refl

after_bare : (ts : List Tok) → is_some (unless_third (sign_front 58 (bare ts))) ≡ is_some (unless_third (sign_front 58 ts))
after_bare [] = refl
after_bare (t ∷ ts) =
    second (is_sign 58 (placed site t)) (bare ts)
    ∙ two_conds (sign_bare 58 t) (ap (λ z. cond z false true) (next_bare 58 ts))
    ∙ sym (second (is_sign 58 t) ts)

further_bare : (ts : List Tok) → is_some (further_front (bare ts)) ≡ is_some (further_front ts)
further_bare [] = refl
further_bare (t ∷ ts) =
    third (is_joint_sign 58 (placed site t)) (sign_front 58 (bare ts))
    ∙ two_conds (joint_bare 58 t) (after_bare ts)
    ∙ sym (third (is_joint_sign 58 t) (sign_front 58 ts))

named : {A : Type 0} → (b : Bool) (x y : A) → is_some (cond b None (Some x)) ≡ is_some (cond b None (Some y))
named true x y = refl
named false x y = refl

segment_bare : (ts : List Tok) → is_some (segment_front (bare ts)) ≡ is_some (segment_front ts)
segment_bare [] = refl
segment_bare (word x s ∷ ts) = named (is_reserved x) _ _
segment_bare (mark c j s ∷ ts) = refl
segment_bare (fixed l s ∷ ts) = refl
segment_bare (group d us s ∷ ts) = refl

either : {a b : Bool} {x y : Bool} → a ≡ b → x ≡ y → (a || x) ≡ (b || y)
either p q = cc

bound_bare : (ts : List Tok) → bound_next (bare ts) ≡ bound_next ts
bound_bare ts = either (lifetime_bare ts) (either (further_bare ts) (segment_bare ts))

pub bound_next_same : (ts us : List Tok) → SameToks ts us → bound_next us ≡ bound_next ts
bound_next_same ts us e = sym (bound_bare us) ∙ ap bound_next (sym e) ∙ bound_bare ts
