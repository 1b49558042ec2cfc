-- How many levels of the readers a tree needs, and that the tokens of its printing are enough for them.
use Rattle.std.proofs.Common.{◌≡◌, ◌⊎◌, ℕ, suc, ◌+◌, ◌*◌, ◌-◌, ◌≤◌, List, [], ◌∷◌, ◌++◌, Bool, true, false, Option, Some, None, cond, refl, ap, inl, inr, codes, arith}
use Rattle.std.specs.Prelude.{nat_eq}
use Rattle.token_trees.specs.Token.{Tok, Toks, no_toks, tok, list_of}
use Rattle.syntax_trees.specs.Syntax.{LifetimeD, TyD, ty_array, ty_fn, ty_group, ty_impl, ty_infer, ty_macro, ty_never, ty_paren, ty_path, ty_pointer, ty_reference, ty_slice, ty_object, ty_tuple, ty_verbatim, PathD, path, SegmentD, segment, ArgumentsD, no_arguments, angle, parens, GenericD, arg_lifetime, arg_ty, arg_const, arg_assoc_ty, arg_assoc_const, arg_constraint, QSelfD, qself, ExprD, ex_binary, ex_call, ex_cast, ex_field, ex_index, ex_fixed, ex_paren, ex_path, ex_unary, ex_verbatim, ExprPathD, expr_path, BoundD, bound_trait, bound_lifetime, MaybeTy, no_ty, some_ty, MaybeQSelf, no_qself, some_qself, Tys, end_tys, more_tys, Bounds, end_bounds, more_bounds, Segments, end_segments, more_segments, Generics, end_generics, more_generics}
use Rattle.syntax_printing.specs.Print.{position}
use Rattle.syntax_parsers.specs.Fronts.{tree_weight, toks_weight, weight}
use Rattle.syntax_parsers.specs.Spelling.{SignThen, PairThen, WordThen, LifetimeThen, MaybeLifetimeThen, MutThen, ColonsThen, CloseThen, ends_bound, TyThen, OutputThen, TysThen, TysBehind, BoundThen, BoundsThen, BoundsBehind, QSelfThen, FrontThen, PathThen, BehindThen, SegmentsThen, SegmentThen, ArgumentsThen, GenericsThen, GenericsBehind, GenericThen, ExprThen, ExprPathThen}
use Rattle.syntax_parsers.specs.SpellingForm.{segments_count, TyForm, OutputForm, TysForm, BoundForm, BoundsForm, FrontForm, PathForm, BehindForm, SegmentsForm, SegmentForm, ArgumentsForm, GenericsForm, GenericForm, LengthForm, ExprPathForm, IsConstant}

-- how many levels a tree needs
abbrev mutual
  pub room_ty : TyD → ℕ
  room_ty (ty_array t e) = suc (room_ty t + room_expr e)
  room_ty (ty_fn is o) = suc (room_tys is + room_output o)
  room_ty (ty_group t) = 1
  room_ty (ty_impl bs) = suc (room_bounds bs)
  room_ty (ty_infer s) = 1
  room_ty (ty_macro p m) = suc (room_path p)
  room_ty (ty_never s) = 1
  room_ty (ty_paren t) = 3 + room_ty t
  room_ty (ty_path q p) = suc (room_front q + room_path p)
  room_ty (ty_pointer m t) = suc (room_ty t)
  room_ty (ty_reference l m t) = suc (room_ty t)
  room_ty (ty_slice t) = suc (room_ty t)
  room_ty (ty_object bs) = suc (room_bounds bs)
  room_ty (ty_tuple is) = suc (room_tys is)
  room_ty (ty_verbatim m) = 1

  pub room_output : MaybeTy → ℕ
  room_output no_ty = 0
  room_output (some_ty t) = room_ty t

  pub room_tys : Tys → ℕ
  room_tys end_tys = 1
  room_tys (more_tys t is) = suc (room_ty t + room_tys is)

  pub room_bound : BoundD → ℕ
  room_bound (bound_trait p) = room_path p
  room_bound (bound_lifetime l) = 0

  pub room_bounds : Bounds → ℕ
  room_bounds end_bounds = 1
  room_bounds (more_bounds b bs) = suc (room_bound b + room_bounds bs)

  pub room_front : MaybeQSelf → ℕ
  room_front no_qself = 0
  room_front (some_qself q) = room_qself q

  pub room_qself : QSelfD → ℕ
  room_qself (qself t n) = room_ty t

  pub room_path : PathD → ℕ
  room_path (path l ss) = room_segments ss

  pub room_segments : Segments → ℕ
  room_segments end_segments = 0
  room_segments (more_segments s ss) = suc (room_segment s + room_segments ss)

  pub room_segment : SegmentD → ℕ
  room_segment (segment x a) = room_arguments a

  pub room_arguments : ArgumentsD → ℕ
  room_arguments no_arguments = 0
  room_arguments (angle t gs) = room_generics gs
  room_arguments (parens is o) = room_tys is + room_output o

  pub room_generics : Generics → ℕ
  room_generics end_generics = 1
  room_generics (more_generics g gs) = suc (room_generic g + room_generics gs)

  pub room_generic : GenericD → ℕ
  room_generic (arg_lifetime l) = 0
  room_generic (arg_ty t) = room_ty t
  room_generic (arg_const e) = 0
  room_generic (arg_assoc_ty x t) = room_ty t
  room_generic (arg_assoc_const x e) = 0
  room_generic (arg_constraint x bs) = room_bounds bs

  pub room_expr : ExprD → ℕ
  room_expr (ex_binary a o b) = 0
  room_expr (ex_call f xs) = 0
  room_expr (ex_cast e t) = 0
  room_expr (ex_field e m) = 0
  room_expr (ex_index e i) = 0
  room_expr (ex_fixed l s) = 0
  room_expr (ex_paren e) = 0
  room_expr (ex_path p) = room_expr_path p
  room_expr (ex_unary o e) = 0
  room_expr (ex_verbatim m) = 3 * weight m

  pub room_expr_path : ExprPathD → ℕ
  room_expr_path (expr_path q p) = suc (room_front q + room_path p)

-- The weight of the tokens pays for the levels: three for each token.

held_weight : (us : Toks) → weight (list_of us) ≡ toks_weight us
held_weight no_toks = refl
held_weight (tok t us) = ap (λ n. tree_weight t + n) (held_weight us)

append_weight : (m rest : List Tok) → weight (m ++ rest) ≡ weight m + weight rest
append_weight [] rest = omega arith
append_weight (t ∷ m) rest = let e = append_weight m rest in omega (arith, e)

-- n levels are paid for by what stands in ts before rest
abbrev pub Paid : ℕ → List Tok → List Tok → Type 0
Paid n ts rest = n + 3 * weight rest ≤ 3 * weight ts

sign_weight : (c : ℕ) (ts rest : List Tok) → SignThen c ts rest → weight ts ≡ 1 + weight rest
sign_weight c ts rest h = ap weight h.2

pair_weight : (c d : ℕ) (ts rest : List Tok) → PairThen c d ts rest → weight ts ≡ 2 + weight rest
pair_weight c d ts rest h = let e : weight ts ≡ 1 + (1 + weight rest) = ap weight h.3 in omega (arith, e)

word_weight : (x : List ℕ) (ts rest : List Tok) → WordThen x ts rest → weight ts ≡ 1 + weight rest
word_weight x ts rest h = ap weight h.1

group_weight : (us : Toks) (ts rest : List Tok) (w : ℕ) → weight ts ≡ (1 + toks_weight us) + weight rest → weight ts ≡ 1 + weight (list_of us) + weight rest
group_weight us ts rest w e = let h = held_weight us in omega (arith, e, h)

same_weight : (ts rest : List Tok) → ts ≡ rest → weight ts ≡ weight rest
same_weight ts rest e = ap weight e

lifetime_weight : (l : LifetimeD) (ts rest : List Tok) → LifetimeThen l ts rest → weight ts ≡ 2 + weight rest
lifetime_weight l ts rest h = let e : weight ts ≡ 1 + (1 + weight rest) = ap weight h in omega (arith, e)

maybe_lifetime_weight : (l : Option LifetimeD) (ts rest : List Tok) → MaybeLifetimeThen l ts rest → weight rest ≤ weight ts
maybe_lifetime_weight None ts rest h = let e = same_weight ts rest h in omega (arith, e)
maybe_lifetime_weight (Some l) ts rest h = let e = lifetime_weight l ts rest h in omega (arith, e)

mut_weight : (m : Bool) (ts rest : List Tok) → MutThen m ts rest → weight rest ≤ weight ts
mut_weight false ts rest h = let e = same_weight ts rest h in omega (arith, e)
mut_weight true ts rest h = let e : weight ts ≡ 1 + weight rest = ap weight h.1 in omega (arith, e)

colons_weight : (b : Bool) (ts rest : List Tok) → ColonsThen b ts rest → weight rest ≤ weight ts
colons_weight false ts rest h = let e = same_weight ts rest h in omega (arith, e)
colons_weight true ts rest h = let e = pair_weight 58 58 ts rest h in omega (arith, e)

close_weight : (b : Bool) (ts rest : List Tok) → CloseThen b ts rest → weight rest ≤ weight ts
close_weight false ts rest h = let e = same_weight ts rest h in omega (arith, e)
close_weight true ts rest h = let e = sign_weight 62 ts rest h in omega (arith, e)

front_end_weight : (b : Bool) (ts rest : List Tok) → cond b (SignThen 62 ts rest) (WordThen (codes "as") ts rest) → weight rest ≤ weight ts
front_end_weight true ts rest h = let e = sign_weight 62 ts rest h in omega (arith, e)
front_end_weight false ts rest h = let e : weight ts ≡ 1 + weight rest = ap weight h.1 in omega (arith, e)

constant_weight : (e : ExprD) (ts rest : List Tok) → IsConstant e → ExprThen e ts rest → Paid 1 ts rest
constant_weight (ex_binary a o b) ts rest f h = absurd f
constant_weight (ex_call g xs) ts rest f h = absurd f
constant_weight (ex_cast e t) ts rest f h = absurd f
constant_weight (ex_field e m) ts rest f h = absurd f
constant_weight (ex_index e i) ts rest f h = absurd f
constant_weight (ex_fixed l s) ts rest f h = let e : weight ts ≡ 1 + weight rest = ap weight h in omega (arith, e)
constant_weight (ex_paren e) ts rest f h = absurd f
constant_weight (ex_path p) ts rest f h = absurd f
constant_weight (ex_unary o e) ts rest f h = absurd f
constant_weight (ex_verbatim m) ts rest (inl f) h =
    let e = same_weight ts (m ++ rest) h in
    let a = append_weight m rest in
    let b : weight m ≡ 1 + (1 + 0) = ap weight f.4 in
    omega (arith, e, a, b)
constant_weight (ex_verbatim m) ts rest (inr f) h =
    let e = same_weight ts (m ++ rest) h in
    let a = append_weight m rest in
    let b : weight m ≡ (1 + toks_weight f.0) + 0 = ap weight f.2 in
    omega (arith, e, a, b)

comma_end_weight : (ts a rest : List Tok) → (ts ≡ a) ⊎ SignThen 44 ts a → SignThen 62 a rest → Paid 1 ts rest
comma_end_weight ts a rest (inl e) h = let k = same_weight ts a e in let n = sign_weight 62 a rest h in omega (arith, k, n)
comma_end_weight ts a rest (inr l) h = let k = sign_weight 44 ts a l in let n = sign_weight 62 a rest h in omega (arith, k, n)

mutual
  pub ty_weight : (t : TyD) (ts rest : List Tok) → TyForm t → TyThen t ts rest → Paid (1 + room_ty t) ts rest
  ty_weight (ty_array t e) ts rest f h =
      let g = group_weight h.0 ts rest 0 (ap weight h.3.1) in
      let a = ty_weight t (list_of h.0) h.1 f.0 h.4 in
      let b = sign_weight 59 h.1 h.2 h.5 in
      let c = length_weight e h.2 f.1 h.6 in
      omega (arith, g, a, b, c)
  ty_weight (ty_fn is o) ts rest f h =
      let k = word_weight (codes "fn") ts h.2 h.4 in
      let g = group_weight h.0 h.2 h.3 0 (ap weight h.5.1) in
      let a = tys_weight is h.1 (list_of h.0) f.0 h.6 in
      let b = output_weight o h.3 rest f.1 h.7 in
      omega (arith, k, g, a, b)
  ty_weight (ty_group t) ts rest f h = absurd f
  ty_weight (ty_impl bs) ts rest f h =
      let k = word_weight (codes "impl") ts h.0 h.1 in
      let a = bounds_weight bs h.0 rest f.1 h.2 in
      omega (arith, k, a)
  ty_weight (ty_infer s) ts rest f h = let e : weight ts ≡ 1 + weight rest = ap weight h in omega (arith, e)
  ty_weight (ty_macro p m) ts rest f h =
      let a = path_weight p ts h.0 f.0 h.2 in
      let b = sign_weight 33 h.0 h.1 h.3 in
      let c = same_weight h.1 (m ++ rest) h.4 in
      let d = append_weight m rest in
      omega (arith, a, b, c, d)
  ty_weight (ty_never s) ts rest f h = let e : weight ts ≡ 1 + weight rest = ap weight h.1 in omega (arith, e)
  ty_weight (ty_paren t) ts rest f h =
      let g = group_weight h.0 ts rest 0 (ap weight h.1.1) in
      let a = ty_weight t (list_of h.0) [] f h.2 in
      omega (arith, g, a)
  ty_weight (ty_path q p) ts rest f h =
      let a = front_weight q p ts h.0 f.0 h.1 in
      let b = behind_weight (position q) p h.0 rest f.1 h.2 in
      omega (arith, a, b)
  ty_weight (ty_pointer m t) ts rest f h =
      let k = sign_weight 42 ts h.0 h.2 in
      let g : weight h.0 ≡ 1 + weight h.1 = ap weight h.3.1 in
      let a = ty_weight t h.1 rest f h.4 in
      omega (arith, k, g, a)
  ty_weight (ty_reference l m t) ts rest f h =
      let k = sign_weight 38 ts h.0 h.3 in
      let g = maybe_lifetime_weight l h.0 h.1 h.4 in
      let i = mut_weight m h.1 h.2 h.5 in
      let a = ty_weight t h.2 rest f h.6 in
      omega (arith, k, g, i, a)
  ty_weight (ty_slice t) ts rest f h =
      let g = group_weight h.0 ts rest 0 (ap weight h.1.1) in
      let a = ty_weight t (list_of h.0) [] f h.2 in
      omega (arith, g, a)
  ty_weight (ty_object bs) ts rest f h =
      let k = word_weight (codes "dyn") ts h.0 h.1 in
      let a = bounds_weight bs h.0 rest f.1 h.2 in
      omega (arith, k, a)
  ty_weight (ty_tuple is) ts rest f h =
      let g = group_weight h.0 ts rest 0 (ap weight h.2.1) in
      let a = tys_weight is h.1 (list_of h.0) f h.3 in
      omega (arith, g, a)
  ty_weight (ty_verbatim m) ts rest f h = absurd f

  output_weight : (o : MaybeTy) (ts rest : List Tok) → OutputForm o → OutputThen o ts rest → Paid (room_output o) ts rest
  output_weight no_ty ts rest f h = let e = same_weight ts rest h in omega (arith, e)
  output_weight (some_ty t) ts rest f h =
      let k = pair_weight 45 62 ts h.0 h.1 in
      let a = ty_weight t h.0 rest f h.2 in
      omega (arith, k, a)

  tys_weight : (is : Tys) (c : Bool) (ts : List Tok) → TysForm is → TysThen c is ts → room_tys is ≤ 3 * weight ts + 1
  tys_weight end_tys c ts f h = omega arith
  tys_weight (more_tys t is) c ts f h =
      let a = ty_weight t ts h.0 f.0 h.1 in
      let b = tys_behind_weight is c h.0 f.1 h.2 in
      omega (arith, a, b)

  tys_behind_weight : (is : Tys) (c : Bool) (ts : List Tok) → TysForm is → TysBehind c is ts → room_tys is ≤ 3 * weight ts + 1
  tys_behind_weight end_tys c ts f h = omega arith
  tys_behind_weight (more_tys t is) c ts f h =
      let k = sign_weight 44 ts h.0 h.2 in
      let a = ty_weight t h.0 h.1 f.0 h.3 in
      let b = tys_behind_weight is c h.1 f.1 h.4 in
      omega (arith, k, a, b)

  bound_weight : (b : BoundD) (ts rest : List Tok) → BoundForm b → BoundThen b ts rest → Paid (2 + room_bound b) ts rest
  bound_weight (bound_trait p) ts rest f h = path_weight p ts rest f h
  bound_weight (bound_lifetime l) ts rest f h = let e = lifetime_weight l ts rest h in omega (arith, e)

  pub bounds_weight : (bs : Bounds) (ts rest : List Tok) → BoundsForm bs → BoundsThen bs ts rest → room_bounds bs + 3 * weight rest ≤ 3 * weight ts + 1
  bounds_weight end_bounds ts rest f h = let e = same_weight ts rest h in omega (arith, e)
  bounds_weight (more_bounds b bs) ts rest f h =
      let a = bound_weight b ts h.0 f.0 h.1 in
      let d = bounds_behind_weight bs (ends_bound b) h.0 rest f.2 h.2 in
      omega (arith, a, d)

  bounds_behind_weight : (bs : Bounds) (o : Bool) (ts rest : List Tok) → BoundsForm bs → BoundsBehind o bs ts rest → room_bounds bs + 3 * weight rest ≤ 3 * weight ts + 1
  bounds_behind_weight end_bounds o ts rest f (inl h) = let e = same_weight ts rest h in omega (arith, e)
  bounds_behind_weight end_bounds o ts rest f (inr h) = let e = sign_weight 43 ts rest h.0 in omega (arith, e)
  bounds_behind_weight (more_bounds b bs) o ts rest f h =
      let k = sign_weight 43 ts h.0 h.2 in
      let a = bound_weight b h.0 h.1 f.0 h.3 in
      let d = bounds_behind_weight bs (ends_bound b) h.1 rest f.2 h.4 in
      omega (arith, k, a, d)

  front_weight : (q : MaybeQSelf) (p : PathD) (ts rest : List Tok) → FrontForm q p → FrontThen q ts rest → Paid (room_front q) ts rest
  front_weight no_qself p ts rest f h = let e = same_weight ts rest h in omega (arith, e)
  front_weight (some_qself q) p ts rest f h = qself_weight q p ts rest f h

  qself_weight : (q : QSelfD) (p : PathD) (ts rest : List Tok) → FrontForm (some_qself q) p → QSelfThen q ts rest → Paid (room_front (some_qself q)) ts rest
  qself_weight (qself t n) (path l ss) ts rest f h =
      let k = sign_weight 60 ts h.0 h.2 in
      let a = ty_weight t h.0 h.1 f.0 h.3 in
      let e = front_end_weight (nat_eq n 0) h.1 rest h.4 in
      omega (arith, k, a, e)

  pub path_weight : (p : PathD) (ts rest : List Tok) → PathForm p → PathThen p ts rest → Paid (2 + room_path p) ts rest
  path_weight (path l ss) ts rest f h = let a = segments_weight ss 0 l ts rest f.1 h in omega (arith, a, f.0)

  behind_weight : (n : ℕ) (p : PathD) (ts rest : List Tok) → BehindForm n p → BehindThen n p ts rest → Paid (2 + room_path p) ts rest
  behind_weight n (path l ss) ts rest f h = let a = segments_weight ss n l ts rest f.1 h in omega (arith, a, f.0)

  segments_weight : (ss : Segments) (n : ℕ) (l : Bool) (ts rest : List Tok) → SegmentsForm n ss → SegmentsThen n l ss ts rest → Paid (2 * segments_count ss + room_segments ss) ts rest
  segments_weight end_segments n l ts rest f h = let e = same_weight ts rest h in omega (arith, e)
  segments_weight (more_segments s ss) n l ts rest f h =
      let k = colons_weight l ts h.0 h.3 in
      let a = segment_weight s h.0 h.1 f.0 h.4 in
      let b = close_weight (nat_eq n 1) h.1 h.2 h.5 in
      let c = segments_weight ss (n - 1) true h.2 rest f.2 h.6 in
      omega (arith, k, a, b, c)

  segment_weight : (s : SegmentD) (ts rest : List Tok) → SegmentForm s → SegmentThen s ts rest → Paid (3 + room_segment s) ts rest
  segment_weight (segment x a) ts rest f h =
      let e : weight ts ≡ 1 + weight h.0 = ap weight h.1 in
      let b = arguments_weight a h.0 rest f.1 h.2 in
      omega (arith, e, b)

  arguments_weight : (a : ArgumentsD) (ts rest : List Tok) → ArgumentsForm a → ArgumentsThen a ts rest → Paid (room_arguments a) ts rest
  arguments_weight no_arguments ts rest f h = let e = same_weight ts rest h in omega (arith, e)
  arguments_weight (angle t gs) ts rest f h =
      let k = colons_weight t ts h.0 h.2 in
      let e = sign_weight 60 h.0 h.1 h.3 in
      let a = generics_weight gs h.1 rest f h.4 in
      omega (arith, k, e, a)
  arguments_weight (parens is o) ts rest f h =
      let g = group_weight h.0 ts h.2 0 (ap weight h.3.1) in
      let a = tys_weight is h.1 (list_of h.0) f.0 h.4 in
      let b = output_weight o h.2 rest f.1 h.5 in
      omega (arith, g, a, b)

  generics_weight : (gs : Generics) (ts rest : List Tok) → GenericsForm gs → GenericsThen gs ts rest → Paid (room_generics gs) ts rest
  generics_weight end_generics ts rest f h = let e = sign_weight 62 ts rest h in omega (arith, e)
  generics_weight (more_generics g gs) ts rest f h =
      let a = generic_weight g ts h.0 f.0 h.1 in
      let b = generics_behind_weight gs h.0 rest f.1 h.2 in
      omega (arith, a, b)

  generics_behind_weight : (gs : Generics) (ts rest : List Tok) → GenericsForm gs → GenericsBehind gs ts rest → Paid (room_generics gs) ts rest
  generics_behind_weight end_generics ts rest f h = comma_end_weight ts h.0 rest h.1 h.2
  generics_behind_weight (more_generics g gs) ts rest f h =
      let k = sign_weight 44 ts h.0 h.2 in
      let a = generic_weight g h.0 h.1 f.0 h.3 in
      let b = generics_behind_weight gs h.1 rest f.1 h.4 in
      omega (arith, k, a, b)

  generic_weight : (g : GenericD) (ts rest : List Tok) → GenericForm g → GenericThen g ts rest → Paid (1 + room_generic g) ts rest
  generic_weight (arg_lifetime l) ts rest f h = let e = lifetime_weight l ts rest h in omega (arith, e)
  generic_weight (arg_ty t) ts rest f h = ty_weight t ts rest f h
  generic_weight (arg_const e) ts rest f h = constant_weight e ts rest f h
  generic_weight (arg_assoc_ty x t) ts rest f h =
      let e : weight ts ≡ 1 + weight h.0 = ap weight h.2 in
      let k = sign_weight 61 h.0 h.1 h.3 in
      let a = ty_weight t h.1 rest f h.4 in
      omega (arith, e, k, a)
  generic_weight (arg_assoc_const x v) ts rest f h =
      let e : weight ts ≡ 1 + weight h.0 = ap weight h.2 in
      let k = sign_weight 61 h.0 h.1 h.3 in
      let a = constant_weight v h.1 rest f h.4 in
      omega (arith, e, k, a)
  generic_weight (arg_constraint x bs) ts rest f h =
      let e : weight ts ≡ 1 + weight h.0 = ap weight h.2 in
      let k = sign_weight 58 h.0 h.1 h.3 in
      let a = bounds_weight bs h.1 rest f h.4 in
      omega (arith, e, k, a)

  length_weight : (e : ExprD) (ts : List Tok) → LengthForm e → ExprThen e ts [] → room_expr e ≤ 3 * weight ts
  length_weight (ex_binary a o b) ts f h = absurd f
  length_weight (ex_call g xs) ts f h = absurd f
  length_weight (ex_cast e t) ts f h = absurd f
  length_weight (ex_field e m) ts f h = absurd f
  length_weight (ex_index e i) ts f h = absurd f
  length_weight (ex_fixed l s) ts f h = omega arith
  length_weight (ex_paren e) ts f h = absurd f
  length_weight (ex_path p) ts f h = expr_path_weight p ts f h
  length_weight (ex_unary o e) ts f h = absurd f
  length_weight (ex_verbatim m) ts f h =
      let e = same_weight ts (m ++ []) h in
      let a = append_weight m [] in
      omega (arith, e, a)

  pub expr_path_weight : (p : ExprPathD) (ts : List Tok) → ExprPathForm p → ExprPathThen p ts [] → room_expr_path p ≤ 3 * weight ts
  expr_path_weight (expr_path q p) ts f h =
      let a = front_weight q p ts h.0 f.0 h.1 in
      let b = behind_weight (position q) p h.0 [] f.1 h.2 in
      omega (arith, a, b)
