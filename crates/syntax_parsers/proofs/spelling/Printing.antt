-- The tokens that a tree is printed as are a printing of it.
use Rattle.std.proofs.Common.{◌≡◌, ℕ, ◌-◌, List, [], ◌∷◌, ◌++◌, Bool, true, false, Option, Some, None, cond, refl, ap, sym, ◌∙◌, inl, codes, append_assoc, true≢false}
use Rattle.std.specs.Prelude.{nat_eq}
use Rattle.std.proofs.lemmas.List.{append-nil}
use Rattle.token_trees.specs.declared.token.Spacing.TheVariants.{Alone}
use Rattle.token_trees.specs.declared.token.Delimiter.TheVariants.{Parenthesis}
use Rattle.token_trees.specs.Token.{Tok, group, toks_of, list_of, site}
use Rattle.token_trees.proofs.Lists.{list_of_toks_of}
use Rattle.syntax_trees.specs.Syntax.{LifetimeD, TyD, ty_array, ty_fn, ty_group, ty_impl, ty_infer, ty_macro, ty_never, ty_paren, ty_path, ty_pointer, ty_reference, ty_slice, ty_object, ty_tuple, ty_verbatim, PathD, path, SegmentD, segment, ArgumentsD, no_arguments, angle, parens, GenericD, arg_lifetime, arg_ty, arg_const, arg_assoc_ty, arg_assoc_const, arg_constraint, QSelfD, qself, ExprD, ex_binary, ex_call, ex_cast, ex_field, ex_index, ex_fixed, ex_paren, ex_path, ex_unary, ex_verbatim, ExprPathD, expr_path, BoundD, bound_trait, bound_lifetime, MaybeTy, no_ty, some_ty, MaybeQSelf, no_qself, some_qself, Tys, end_tys, more_tys, Bounds, end_bounds, more_bounds, Segments, end_segments, more_segments, Generics, end_generics, more_generics}
use Rattle.syntax_printing.specs.Print.{sign, keyword, colons, print_maybe_lifetime, when, any_ty, position, print_ty, print_output, print_tys, print_bound, print_bounds, print_qself, print_front, print_path, print_behind, print_expr_path, print_segments, print_segment, print_arguments, print_generics, print_generic, print_expr}
use Rattle.syntax_parsers.specs.Spelling.{is_one, SignThen, WordThen, MaybeLifetimeThen, MutThen, ColonsThen, CloseThen, ends_bound, TyThen, OutputThen, TysThen, TysBehind, BoundThen, BoundsThen, BoundsBehind, QSelfThen, FrontThen, PathThen, BehindThen, SegmentsThen, SegmentThen, ArgumentsThen, GenericsThen, GenericsBehind, GenericThen, ExprThen, ExprPathThen}
use Rattle.syntax_parsers.specs.SpellingForm.{IsConstant, TyForm, OutputForm, TysForm, BoundForm, BoundsForm, FrontForm, PathForm, BehindForm, SegmentsForm, SegmentForm, ArgumentsForm, GenericsForm, GenericForm, LengthForm, ExprPathForm}

lifetime_printed : (l : Option LifetimeD) (ts rest : List Tok) → ts ≡ print_maybe_lifetime l ++ rest → MaybeLifetimeThen l ts rest
lifetime_printed None ts rest h = h
lifetime_printed (Some l) ts rest h = h

mut_printed : (m : Bool) (ts rest : List Tok) → ts ≡ when m (keyword (codes "mut") ∷ []) ++ rest → MutThen m ts rest
mut_printed false ts rest h = h
mut_printed true ts rest h = (site, h)

colons_printed : (b : Bool) (ts rest : List Tok) → ts ≡ when b colons ++ rest → ColonsThen b ts rest
colons_printed false ts rest h = h
colons_printed true ts rest h = (site, Alone, site, h)

close_printed : (b : Bool) (ts rest : List Tok) → ts ≡ when b (sign 62 ∷ []) ++ rest → CloseThen b ts rest
close_printed false ts rest h = h
close_printed true ts rest h = (Alone, site, h)

front_end_printed : (b : Bool) (rest : List Tok) → cond b (SignThen 62 (cond b (sign 62) (keyword (codes "as")) ∷ rest) rest) (WordThen (codes "as") (cond b (sign 62) (keyword (codes "as")) ∷ rest) rest)
front_end_printed true rest = (Alone, site, refl)
front_end_printed false rest = (site, refl)

constant_printed : (e : ExprD) (ts rest : List Tok) → IsConstant e → ts ≡ print_expr e ++ rest → ExprThen e ts rest
constant_printed (ex_binary a o b) ts rest f h = absurd f
constant_printed (ex_call g xs) ts rest f h = absurd f
constant_printed (ex_cast e t) ts rest f h = absurd f
constant_printed (ex_field e m) ts rest f h = absurd f
constant_printed (ex_index e i) ts rest f h = absurd f
constant_printed (ex_fixed l s) ts rest f h = h
constant_printed (ex_paren e) ts rest f h = absurd f
constant_printed (ex_path p) ts rest f h = absurd f
constant_printed (ex_unary o e) ts rest f h = absurd f
constant_printed (ex_verbatim m) ts rest f h = h

-- a tuple of one has a comma
one_is_there : (is : Tys) → is_one is ≡ true → any_ty is ≡ true
one_is_there end_tys h = absurd (true≢false (sym h))
one_is_there (more_tys t is) h = refl

four : (a b c d rest : List Tok) → (a ++ b ++ c ++ d) ++ rest ≡ a ++ (b ++ (c ++ (d ++ rest)))
four a b c d rest = simp append_assoc

mutual
  pub ty_printed : (t : TyD) (ts rest : List Tok) → TyForm t → ts ≡ print_ty t ++ rest → TyThen t ts rest
  ty_printed (ty_array t e) ts rest f h =
      let x = print_ty t ++ (sign 59 ∷ print_expr e) in
      (toks_of x, sign 59 ∷ print_expr e, print_expr e, (site, h), ty_printed t (list_of (toks_of x)) (sign 59 ∷ print_expr e) f.0 (list_of_toks_of x), (Alone, site, refl), length_printed e (print_expr e) f.1 refl)
  ty_printed (ty_fn is o) ts rest f h =
      let x = print_tys false is in
      (toks_of x, false, group Parenthesis (toks_of x) site ∷ (print_output o ++ rest), print_output o ++ rest, (site, h), (site, refl), tys_printed is false (list_of (toks_of x)) f.0 (λ q. refl) (list_of_toks_of x ∙ sym (append-nil x)), output_printed o (print_output o ++ rest) rest f.1 refl)
  ty_printed (ty_group t) ts rest f h = absurd f
  ty_printed (ty_impl bs) ts rest f h = (print_bounds false bs ++ rest, (site, h), bounds_printed bs (print_bounds false bs ++ rest) rest f.1 refl)
  ty_printed (ty_infer s) ts rest f h = h
  ty_printed (ty_macro p m) ts rest f h = (sign 33 ∷ (m ++ rest), m ++ rest, path_printed p ts (sign 33 ∷ (m ++ rest)) f.0 (h ∙ append_assoc (print_path p) (sign 33 ∷ m) rest), (Alone, site, refl), refl)
  ty_printed (ty_never s) ts rest f h = (Alone, h)
  ty_printed (ty_paren t) ts rest f h = (toks_of (print_ty t), (site, h), ty_printed t (list_of (toks_of (print_ty t))) [] f (list_of_toks_of (print_ty t) ∙ sym (append-nil (print_ty t))))
  ty_printed (ty_path q p) ts rest f h =
      let x = print_behind (position q) p ++ rest in
      (x, front_printed q p ts x f.0 (h ∙ append_assoc (print_front q) (print_behind (position q) p) rest), behind_printed p (position q) x rest f.1 refl)
  ty_printed (ty_pointer m t) ts rest f h = (keyword (cond m (codes "mut") (codes "const")) ∷ (print_ty t ++ rest), print_ty t ++ rest, (Alone, site, h), (site, refl), ty_printed t (print_ty t ++ rest) rest f refl)
  ty_printed (ty_reference l m t) ts rest f h =
      let x = print_maybe_lifetime l in
      let y = when m (keyword (codes "mut") ∷ []) in
      let e : (x ++ y ++ print_ty t) ++ rest ≡ x ++ (y ++ (print_ty t ++ rest)) = simp append_assoc in
      ((x ++ y ++ print_ty t) ++ rest, y ++ (print_ty t ++ rest), print_ty t ++ rest, (Alone, site, h), lifetime_printed l ((x ++ y ++ print_ty t) ++ rest) (y ++ (print_ty t ++ rest)) e, mut_printed m (y ++ (print_ty t ++ rest)) (print_ty t ++ rest) refl, ty_printed t (print_ty t ++ rest) rest f refl)
  ty_printed (ty_slice t) ts rest f h = (toks_of (print_ty t), (site, h), ty_printed t (list_of (toks_of (print_ty t))) [] f (list_of_toks_of (print_ty t) ∙ sym (append-nil (print_ty t))))
  ty_printed (ty_object bs) ts rest f h = (print_bounds false bs ++ rest, (site, h), bounds_printed bs (print_bounds false bs ++ rest) rest f.1 refl)
  ty_printed (ty_tuple is) ts rest f h =
      let x = print_tys false is ++ when (any_ty is) (sign 44 ∷ []) in
      (toks_of x, any_ty is, (site, h), tys_printed is (any_ty is) (list_of (toks_of x)) f (λ q. ap any_ty q) (list_of_toks_of x), one_is_there is)
  ty_printed (ty_verbatim m) ts rest f h = absurd f

  output_printed : (o : MaybeTy) (ts rest : List Tok) → OutputForm o → ts ≡ print_output o ++ rest → OutputThen o ts rest
  output_printed no_ty ts rest f h = h
  output_printed (some_ty t) ts rest f h = (print_ty t ++ rest, (site, Alone, site, h), ty_printed t (print_ty t ++ rest) rest f refl)

  tys_printed : (is : Tys) (c : Bool) (ts : List Tok) → TysForm is → (is ≡ end_tys → c ≡ false) → ts ≡ print_tys false is ++ when c (sign 44 ∷ []) → TysThen c is ts
  tys_printed end_tys c ts f n h = (h ∙ ap (λ z. when z (sign 44 ∷ [])) (n refl), n refl)
  tys_printed (more_tys t is) c ts f n h =
      let x = print_tys true is ++ when c (sign 44 ∷ []) in
      (x, ty_printed t ts x f.0 (h ∙ append_assoc (print_ty t) (print_tys true is) (when c (sign 44 ∷ []))), tys_behind_printed is c x f.1 refl)

  tys_behind_printed : (is : Tys) (c : Bool) (ts : List Tok) → TysForm is → ts ≡ print_tys true is ++ when c (sign 44 ∷ []) → TysBehind c is ts
  tys_behind_printed end_tys false ts f h = h
  tys_behind_printed end_tys true ts f h = (Alone, site, h)
  tys_behind_printed (more_tys t is) c ts f h =
      let x = print_tys true is ++ when c (sign 44 ∷ []) in
      let y = (print_ty t ++ print_tys true is) ++ when c (sign 44 ∷ []) in
      (y, x, (Alone, site, h), ty_printed t y x f.0 (append_assoc (print_ty t) (print_tys true is) (when c (sign 44 ∷ []))), tys_behind_printed is c x f.1 refl)

  bound_printed : (b : BoundD) (ts rest : List Tok) → BoundForm b → ts ≡ print_bound b ++ rest → BoundThen b ts rest
  bound_printed (bound_trait p) ts rest f h = path_printed p ts rest f h
  bound_printed (bound_lifetime l) ts rest f h = h

  pub bounds_printed : (bs : Bounds) (ts rest : List Tok) → BoundsForm bs → ts ≡ print_bounds false bs ++ rest → BoundsThen bs ts rest
  bounds_printed end_bounds ts rest f h = h
  bounds_printed (more_bounds b bs) ts rest f h =
      let x = print_bounds true bs ++ rest in
      (x, bound_printed b ts x f.0 (h ∙ append_assoc (print_bound b) (print_bounds true bs) rest), bounds_behind_printed bs (ends_bound b) x rest f.2 refl)

  bounds_behind_printed : (bs : Bounds) (o : Bool) (ts rest : List Tok) → BoundsForm bs → ts ≡ print_bounds true bs ++ rest → BoundsBehind o bs ts rest
  bounds_behind_printed end_bounds o ts rest f h = inl h
  bounds_behind_printed (more_bounds b bs) o ts rest f h =
      let x = print_bounds true bs ++ rest in
      let y = (print_bound b ++ print_bounds true bs) ++ rest in
      (y, x, (Alone, site, h), bound_printed b y x f.0 (append_assoc (print_bound b) (print_bounds true bs) rest), bounds_behind_printed bs (ends_bound b) x rest f.2 refl)

  front_printed : (q : MaybeQSelf) (p : PathD) (ts rest : List Tok) → FrontForm q p → ts ≡ print_front q ++ rest → FrontThen q ts rest
  front_printed no_qself p ts rest f h = h
  front_printed (some_qself q) p ts rest f h = qself_printed q p ts rest f h

  qself_printed : (q : QSelfD) (p : PathD) (ts rest : List Tok) → FrontForm (some_qself q) p → ts ≡ print_qself q ++ rest → QSelfThen q ts rest
  qself_printed (qself t n) (path l ss) ts rest f h =
      let z = cond (nat_eq n 0) (sign 62) (keyword (codes "as")) in
      let y = (print_ty t ++ (z ∷ [])) ++ rest in
      (y, z ∷ rest, (Alone, site, h), ty_printed t y (z ∷ rest) f.0 (append_assoc (print_ty t) (z ∷ []) rest), front_end_printed (nat_eq n 0) rest)

  pub path_printed : (p : PathD) (ts rest : List Tok) → PathForm p → ts ≡ print_path p ++ rest → PathThen p ts rest
  path_printed (path l ss) ts rest f h = segments_printed ss 0 l ts rest f.1 h

  behind_printed : (p : PathD) (n : ℕ) (ts rest : List Tok) → BehindForm n p → ts ≡ print_behind n p ++ rest → BehindThen n p ts rest
  behind_printed (path l ss) n ts rest f h = segments_printed ss n l ts rest f.1 h

  segments_printed : (ss : Segments) (n : ℕ) (l : Bool) (ts rest : List Tok) → SegmentsForm n ss → ts ≡ print_segments n l ss ++ rest → SegmentsThen n l ss ts rest
  segments_printed end_segments n l ts rest f h = h
  segments_printed (more_segments s ss) n l ts rest f h =
      let w = when (nat_eq n 1) (sign 62 ∷ []) in
      let x = print_segments (n - 1) true ss ++ rest in (
        print_segment s ++ (w ++ x),
        w ++ x,
        x,
        colons_printed l ts (print_segment s ++ (w ++ x)) (h ∙ four (when l colons) (print_segment s) w (print_segments (n - 1) true ss) rest),
        segment_printed s (print_segment s ++ (w ++ x)) (w ++ x) f.0 refl,
        close_printed (nat_eq n 1) (w ++ x) x refl,
        segments_printed ss (n - 1) true x rest f.2 refl,
      )

  segment_printed : (s : SegmentD) (ts rest : List Tok) → SegmentForm s → ts ≡ print_segment s ++ rest → SegmentThen s ts rest
  segment_printed (segment x a) ts rest f h = (print_arguments a ++ rest, h, arguments_printed a (print_arguments a ++ rest) rest f.1 refl)

  arguments_printed : (a : ArgumentsD) (ts rest : List Tok) → ArgumentsForm a → ts ≡ print_arguments a ++ rest → ArgumentsThen a ts rest
  arguments_printed no_arguments ts rest f h = h
  arguments_printed (angle t gs) ts rest f h =
      let y = (print_generics false gs ++ (sign 62 ∷ [])) ++ rest in
      (sign 60 ∷ y, y, colons_printed t ts (sign 60 ∷ y) (h ∙ append_assoc (when t colons) (sign 60 ∷ (print_generics false gs ++ (sign 62 ∷ []))) rest), (Alone, site, refl), generics_printed gs y rest f (append_assoc (print_generics false gs) (sign 62 ∷ []) rest))
  arguments_printed (parens is o) ts rest f h =
      let x = print_tys false is in
      (toks_of x, false, print_output o ++ rest, (site, h), tys_printed is false (list_of (toks_of x)) f.0 (λ q. refl) (list_of_toks_of x ∙ sym (append-nil x)), output_printed o (print_output o ++ rest) rest f.1 refl)

  generics_printed : (gs : Generics) (ts rest : List Tok) → GenericsForm gs → ts ≡ print_generics false gs ++ (sign 62 ∷ rest) → GenericsThen gs ts rest
  generics_printed end_generics ts rest f h = (Alone, site, h)
  generics_printed (more_generics g gs) ts rest f h =
      let x = print_generics true gs ++ (sign 62 ∷ rest) in
      (x, generic_printed g ts x f.0 (h ∙ append_assoc (print_generic g) (print_generics true gs) (sign 62 ∷ rest)), generics_behind_printed gs x rest f.1 refl)

  generics_behind_printed : (gs : Generics) (ts rest : List Tok) → GenericsForm gs → ts ≡ print_generics true gs ++ (sign 62 ∷ rest) → GenericsBehind gs ts rest
  generics_behind_printed end_generics ts rest f h = (ts, inl refl, (Alone, site, h))
  generics_behind_printed (more_generics g gs) ts rest f h =
      let x = print_generics true gs ++ (sign 62 ∷ rest) in
      let y = (print_generic g ++ print_generics true gs) ++ (sign 62 ∷ rest) in
      (y, x, (Alone, site, h), generic_printed g y x f.0 (append_assoc (print_generic g) (print_generics true gs) (sign 62 ∷ rest)), generics_behind_printed gs x rest f.1 refl)

  generic_printed : (g : GenericD) (ts rest : List Tok) → GenericForm g → ts ≡ print_generic g ++ rest → GenericThen g ts rest
  generic_printed (arg_lifetime l) ts rest f h = h
  generic_printed (arg_ty t) ts rest f h = ty_printed t ts rest f h
  generic_printed (arg_const e) ts rest f h = constant_printed e ts rest f h
  generic_printed (arg_assoc_ty x t) ts rest f h = (sign 61 ∷ (print_ty t ++ rest), print_ty t ++ rest, h, (Alone, site, refl), ty_printed t (print_ty t ++ rest) rest f refl)
  generic_printed (arg_assoc_const x e) ts rest f h = (sign 61 ∷ (print_expr e ++ rest), print_expr e ++ rest, h, (Alone, site, refl), constant_printed e (print_expr e ++ rest) rest f refl)
  generic_printed (arg_constraint x bs) ts rest f h = (sign 58 ∷ (print_bounds false bs ++ rest), print_bounds false bs ++ rest, h, (Alone, site, refl), bounds_printed bs (print_bounds false bs ++ rest) rest f refl)

  length_printed : (e : ExprD) (ts : List Tok) → LengthForm e → ts ≡ print_expr e → ExprThen e ts []
  length_printed (ex_binary a o b) ts f h = absurd f
  length_printed (ex_call g xs) ts f h = absurd f
  length_printed (ex_cast e t) ts f h = absurd f
  length_printed (ex_field e m) ts f h = absurd f
  length_printed (ex_index e i) ts f h = absurd f
  length_printed (ex_fixed l s) ts f h = h
  length_printed (ex_paren e) ts f h = absurd f
  length_printed (ex_path p) ts f h = expr_path_printed p ts [] f (h ∙ sym (append-nil (print_expr_path p)))
  length_printed (ex_unary o e) ts f h = absurd f
  length_printed (ex_verbatim m) ts f h = h ∙ sym (append-nil m)

  pub expr_path_printed : (p : ExprPathD) (ts rest : List Tok) → ExprPathForm p → ts ≡ print_expr_path p ++ rest → ExprPathThen p ts rest
  expr_path_printed (expr_path q p) ts rest f h =
      let x = print_behind (position q) p ++ rest in
      (x, front_printed q p ts x f.0 (h ∙ append_assoc (print_front q) (print_behind (position q) p) rest), behind_printed p (position q) x rest f.1 refl)
