-- What is printed is read, where the readers below have room for the parts: reading gives the tree, but for lengths that are
-- held as tokens and can be a path.
use Rattle.std.proofs.Common.{◌≡◌, ◌⊎◌, ℕ, zero, suc, ◌+◌, ◌*◌, ◌-◌, ◌<◌, ◌≤◌, List, [], ◌∷◌, ◌++◌, Bool, true, false, Some, None, cond, refl, ap, sym, ◌∙◌, subst, inl, inr, length, codes, arith}
use Rattle.std.specs.Prelude.{Option, Result, Ok, Err, nat_eq, option_map}
use Rattle.std.proofs.lemmas.Bool.{ne_eqb}
use Rattle.std.proofs.lemmas.List.{append-nil}
use Rattle.token_trees.specs.declared.token.Span.{Span}
use Rattle.token_trees.specs.declared.token.Spacing.TheVariants.{Joint}
use Rattle.token_trees.specs.declared.token.Delimiter.TheVariants.{Parenthesis}
use Rattle.token_trees.specs.Token.{Tok, word, mark, fixed, group, Toks, list_of}
use Rattle.syntax_trees.specs.Syntax.{LifetimeD, TyD, ty_array, ty_fn, ty_group, ty_impl, ty_infer, ty_macro, ty_never, ty_paren, ty_path, ty_pointer, ty_reference, ty_slice, ty_object, ty_tuple, ty_verbatim, PathD, path, SegmentD, segment, ArgumentsD, no_arguments, angle, parens, GenericD, arg_lifetime, arg_ty, arg_const, arg_assoc_ty, arg_assoc_const, arg_constraint, qself, ExprD, ex_binary, ex_call, ex_cast, ex_field, ex_index, ex_fixed, ex_paren, ex_path, ex_unary, ex_verbatim, ExprPathD, expr_path, BoundD, bound_trait, bound_lifetime, MaybeTy, no_ty, some_ty, no_qself, some_qself, Tys, end_tys, more_tys, Bounds, end_bounds, more_bounds, Segments, end_segments, more_segments, Generics, end_generics, more_generics, tys_of, bounds_of, segments_of, generics_of}
use Rattle.syntax_trees.specs.Metas.{sign_next}
use Rattle.syntax_trees.specs.declared.cursor.SyntaxKind.TheVariants.{ExpectedIdent, ExpectedGt}
use Rattle.syntax_trees.specs.declared.cursor.SyntaxError.{SyntaxError}
use Rattle.syntax_parsers.specs.Answer.{◌>>=◌}
use Rattle.syntax_parsers.specs.Fronts.{weight, sign_front, colons_front, arrow_front, keyword_front, name_front, group_front, tree_front, lifetime_front, segment_front, bound_next, path_next, further_front, colon_front, angle_front, labelled, is_parens}
use Rattle.syntax_parsers.specs.Grammar.{Read, Readers, choose, required, whole, output_body, path_body, trait_body, behind_body, qualified_body, expr_path_body, other_length, length_body, bracketed_body, parenthesised, mut_front, maybe_lifetime_front, reference_body, pointer_body, signature_body, function_body, some_bounds, path_ty, ty_body, tys_body, bound_body, bounds_body, arguments_body, segment_body, segments_body, constant_front, generic_body, generics_body, takes_ty, takes_output, takes_bounds, takes_bound, takes_segment, takes_arguments, gives_segment, gives_last, gives_path}
use Rattle.syntax_parsers.specs.Read.{stuck, level, levels}
use Rattle.syntax_parsers.specs.Spelling.{is_one, SignThen, PairThen, WordThen, GroupThen, MaybeLifetimeThen, MutThen, CloseThen, LastComma, ends_ty, ends_output, ends_path, ends_segments, ends_segment, ends_arguments, ends_bound, TyThen, OutputThen, TysThen, BoundThen, BoundsThen, BoundsBehind, PathThen, SegmentsThen, SegmentThen, ArgumentsThen, GenericsThen, GenericThen, ExprThen, ExprPathThen}
use Rattle.syntax_parsers.specs.SpellingForm.{has_bounds, segments_count, IsGroup, IsConstant, TyForm, OutputForm, TysForm, BoundForm, BoundsForm, QSelfForm, PathForm, SegmentsForm, SegmentForm, ArgumentsForm, GenericsForm, GenericForm, LengthForm, ExprPathForm, IsNoLiteral, TyLengths, OutputLengths, TysLengths, BoundLengths, BoundsLengths, PathLengths, SegmentsLengths, SegmentLengths, ArgumentsLengths, GenericsLengths, GenericLengths, LengthHeld, ExprPathLengths}
use Rattle.syntax_parsers.proofs.Results.{ok_same}
use Rattle.syntax_parsers.proofs.spelling.Stands.{whole_ok}
use Rattle.syntax_parsers.proofs.spelling.Read.{Printed, levels_printed}
use Rattle.syntax_parsers.proofs.spelling.Halts.{ArgStops, Stops, NoBang, Halt, Pauses, halt_pauses, stops_pauses, pauses_stop, pauses_bare, Shut, Ends, Unlabelled, halt_end, halt_comma, halt_close, halt_semicolon, halt_plus, halt_as, stops_bang, stops_further, shut_end, shut_comma, shut_close, shut_as, unlabelled_comma, unlabelled_close, not_keyword, segment_word, word_path, PathStart, at_colons, at_word, path_start, path_begins, start_no_lifetime, bound_begins}
use Rattle.syntax_parsers.proofs.spelling.Room.{room_ty, room_output, room_tys, room_bound, room_bounds, room_path, room_segments, room_segment, room_arguments, room_generics, room_generic, room_expr, room_expr_path, expr_path_weight}
use Rattle.syntax_parsers.proofs.spelling.Begins.{plain_ty, colon_bounds}

-- what reading gives: a tree, which is the one that was printed where its lengths are held as they should be
abbrev pub TyGot : Read TyD → TyD → List Tok → Type 0
TyGot v t rest = (u : TyD) × (v ≡ Ok (u, rest)) × (TyLengths t → u ≡ t) × TyLengths u × ((c : Bool) → takes_ty c u ≡ takes_ty c t)

abbrev pub tys_count : Tys → ℕ
tys_count end_tys = 0
tys_count (more_tys t is) = suc (tys_count is)

abbrev pub TysGot : Result (List TyD × Bool) SyntaxError → Tys → Bool → Type 0
TysGot v is c = (us : List TyD) × (v ≡ Ok (us, c)) × (length us ≡ tys_count is) × (TysLengths is → tys_of us ≡ is) × TysLengths (tys_of us)

abbrev pub BoundGot : Read BoundD → BoundD → List Tok → Type 0
BoundGot v b rest = (u : BoundD) × (v ≡ Ok (u, rest)) × (BoundLengths b → u ≡ b) × BoundLengths u × ((c : Bool) → takes_bound c u ≡ takes_bound c b)

abbrev pub BoundsGot : Read (List BoundD) → Bounds → List Tok → Type 0
BoundsGot v bs rest = (us : List BoundD) × (v ≡ Ok (us, rest)) × (BoundsLengths bs → bounds_of us ≡ bs) × BoundsLengths (bounds_of us) × ((c was : Bool) → takes_bounds c was (bounds_of us) ≡ takes_bounds c was bs)

abbrev pub SegmentsGot : Read (List SegmentD) → Segments → List Tok → Type 0
SegmentsGot v ss rest = (us : List SegmentD) × (v ≡ Ok (us, rest)) × (length us ≡ segments_count ss) × ((was : Bool) → gives_last was (segments_of us) ≡ gives_last was ss) × (SegmentsLengths ss → segments_of us ≡ ss) × SegmentsLengths (segments_of us)

abbrev pub SegmentGot : Read SegmentD → SegmentD → List Tok → Type 0
SegmentGot v s rest = (u : SegmentD) × (v ≡ Ok (u, rest)) × ((c : Bool) → takes_segment c u ≡ takes_segment c s) × (SegmentLengths s → u ≡ s) × SegmentLengths u

abbrev pub ArgumentsGot : Read ArgumentsD → ArgumentsD → List Tok → Type 0
ArgumentsGot v a rest = (u : ArgumentsD) × (v ≡ Ok (u, rest)) × ((c : Bool) → takes_arguments c u ≡ takes_arguments c a) × (ArgumentsLengths a → u ≡ a) × ArgumentsLengths u

abbrev pub PathGot : Read PathD → PathD → List Tok → Type 0
PathGot v p rest = (u : PathD) × (v ≡ Ok (u, rest)) × (gives_path u ≡ gives_path p) × (PathLengths p → u ≡ p) × PathLengths u

abbrev pub GenericGot : Read GenericD → GenericD → List Tok → Type 0
GenericGot v g rest = (u : GenericD) × (v ≡ Ok (u, rest)) × (GenericLengths g → u ≡ g) × GenericLengths u

abbrev pub GenericsGot : Read (List GenericD) → Generics → List Tok → Type 0
GenericsGot v gs rest = (us : List GenericD) × (v ≡ Ok (us, rest)) × (GenericsLengths gs → generics_of us ≡ gs) × GenericsLengths (generics_of us)

abbrev pub ExprGot : Result ExprD SyntaxError → ExprD → Type 0
ExprGot v e = (u : ExprD) × (v ≡ Ok u) × (LengthHeld e → u ≡ e) × LengthHeld u

abbrev pub ExprPathGot : Read ExprPathD → ExprPathD → List Tok → Type 0
ExprPathGot v p rest = (u : ExprPathD) × (v ≡ Ok (u, rest)) × (ExprPathLengths p → u ≡ p) × ExprPathLengths u

-- what stands behind a path: whether its end takes the `!` of a macro, and whether it ends in bounds
abbrev pub Beyond : Bool → Bool → List Tok → Type 0
Beyond back ends ts = Stops ts × (back ≡ true → NoBang ts) × Ends ends ts

-- no bound more stands here
abbrev pub Over : Bounds → List Tok → Type 0
Over bs ts = (sign_next 43 ts ≡ false) × (has_bounds bs ≡ false → bound_next ts ≡ false)

pub shut_over : (bs : Bounds) (ts : List Tok) → Shut ts → Over bs ts
shut_over bs ts h = (h.plus, λ q. h.bound)

pub record Reads (r : Readers) (k : ℕ) : Type 0 where
  pub ty : (at : Span) (t : TyD) (ts rest : List Tok) → room_ty t ≤ k → TyForm t → TyThen t ts rest → Pauses (takes_ty false t) (takes_ty true t) rest → Ends (ends_ty t) rest → TyGot (r.ty at ts) t rest
  pub tys : (at : Span) (is : Tys) (c : Bool) (ts : List Tok) → room_tys is ≤ k → TysForm is → TysThen c is ts → TysGot (r.tys at ts) is c
  pub bounds : (at : Span) (bs : Bounds) (ts rest : List Tok) → room_bounds bs ≤ k → BoundsForm bs → BoundsThen bs ts rest → Pauses (takes_bounds false false bs) (takes_bounds true false bs) rest → Over bs rest → BoundsGot (r.bounds at ts) bs rest
  pub segments : (at : Span) (ss : Segments) (ts rest : List Tok) → room_segments ss ≤ k → 0 < segments_count ss → SegmentsForm 0 ss → SegmentsThen 0 false ss ts rest → Beyond (gives_last false ss) (ends_segments false ss) rest → SegmentsGot (r.segments at ts) ss rest
  pub generics : (at : Span) (gs : Generics) (ts rest : List Tok) → room_generics gs ≤ k → GenericsForm gs → GenericsThen gs ts rest → GenericsGot (r.generics at ts) gs rest
  pub expr_path : (at : Span) (p : ExprPathD) (ts : List Tok) → room_expr_path p ≤ k → ExprPathForm p → ExprPathThen p ts [] → ExprPathGot (r.expr_path at ts) p []

-- paths

unled : (ss : Segments) (ts rest : List Tok) → 0 < segments_count ss → SegmentsThen 0 true ss ts rest → (a : List Tok) × PairThen 58 58 ts a × SegmentsThen 0 false ss a rest
unled end_segments ts rest c h = absurd (omega (arith, c))
unled (more_segments s ss) ts rest c h = (h.0, h.3, (h.0, h.1, h.2, refl, h.4, h.5, h.6))

choose_none : {A B : Type 0} → (o : Option A) (f : A → B) (g : B) → o ≡ None → choose o f g ≡ g
choose_none o f g e = ap (λ z. choose z f g) e

choose_at : {A B : Type 0} → (o : Option A) (f : A → B) (g : B) (x : A) → o ≡ Some x → choose o f g ≡ f x
choose_at o f g x e = ap (λ z. choose z f g) e

bind_at : {A B : Type 0} → (v : Result A SyntaxError) (f : A → Result B SyntaxError) (x : A) → v ≡ Ok x → (v >>= f) ≡ f x
bind_at v f x e = ap (λ z. z >>= f) e

cond_none : {A : Type 0} → (b : Bool) (o : Option A) → o ≡ None → cond b None o ≡ None
cond_none true o e = refl
cond_none false o e = e

path_got : (r : Readers) (k : ℕ) → Reads r k → (at : Span) (l : Bool) (ss : Segments) (ts rest : List Tok) → room_segments ss ≤ k → 0 < segments_count ss → SegmentsForm 0 ss → SegmentsThen 0 l ss ts rest → Beyond (gives_last false ss) (ends_segments false ss) rest → PathGot (path_body r at ts) (path l ss) rest
unfolding path_body
path_got r k w at l end_segments ts rest m c f h b = absurd (omega (arith, c))
path_got r k w at true (more_segments s ss) ts rest m c f h b =
    let u = unled (more_segments s ss) ts rest c h in
    let g = w.segments at (more_segments s ss) u.0 rest m c f u.2 b in
    subst (λ z. PathGot (path_body r at z) (path true (more_segments s ss)) rest) (sym u.1.3)
    (path true (segments_of g.0), ap (λ z. z >>= λ us. Ok (path true (segments_of us.0), us.1)) g.1, g.3 false, (λ q. ap (path true) (g.4 q)), g.5)
path_got r k w at false (more_segments (segment x a) ss) ts rest m c f h b =
    let g = w.segments at (more_segments (segment x a) ss) ts rest m c f h b in
    let e : colons_front ts ≡ None = ap colons_front (h.3 ∙ h.4.1) in
    (path false (segments_of g.0), choose_none (colons_front ts) _ _ e ∙ bind_at (r.segments at ts) _ _ g.1, g.3 false, (λ q. ap (path false) (g.4 q)), g.5)

pub path_read_back : (r : Readers) (k : ℕ) → Reads r k → (at : Span) (p : PathD) (ts rest : List Tok) → room_path p ≤ k → PathForm p → PathThen p ts rest → Beyond (gives_path p) (ends_path p) rest → PathGot (path_body r at ts) p rest
path_read_back r k w at (path l ss) ts rest m f h b = path_got r k w at l ss ts rest m f.0 f.1 h b

-- what a function gives back

abbrev OutGot : Read MaybeTy → MaybeTy → List Tok → Type 0
OutGot v o rest = (u : MaybeTy) × (v ≡ Ok (u, rest)) × ((c : Bool) → takes_output c u ≡ takes_output c o) × (OutputLengths o → u ≡ o) × OutputLengths u

output_got : (r : Readers) (k : ℕ) → Reads r k → (at : Span) (o : MaybeTy) (ts rest : List Tok) → room_output o ≤ k → OutputForm o → OutputThen o ts rest → Pauses (takes_output false o) (takes_output true o) rest → Ends (ends_output o) rest → OutGot (output_body r at ts) o rest
unfolding output_body
output_got r k w at no_ty ts rest m f h b d = subst (λ z. OutGot (output_body r at z) no_ty rest) (sym h) (no_ty, choose_none (arrow_front rest) _ _ b.args.arrow, (λ c. refl), (λ q. refl), tt)
output_got r k w at (some_ty t) ts rest m f h b d =
    let g = w.ty at t h.0 rest m f h.2 b d in
    subst (λ z. OutGot (output_body r at z) (some_ty t) rest) (sym h.1.3)
    (some_ty g.0, ap (λ z. z >>= λ u. Ok (some_ty u.0, u.1)) g.1, g.4, (λ q. ap some_ty (g.2 q)), g.3)

abbrev SignatureGot : Result (List TyD × MaybeTy × List Tok) SyntaxError → Tys → MaybeTy → List Tok → Type 0
SignatureGot v is o rest = (us : List TyD) × (u : MaybeTy) × (v ≡ Ok (us, u, rest)) × ((c : Bool) → takes_output c u ≡ takes_output c o) × (TysLengths is → tys_of us ≡ is) × (OutputLengths o → u ≡ o) × TysLengths (tys_of us) × OutputLengths u

signature_got : (r : Readers) (k : ℕ) → Reads r k → (at s : Span) (us : Toks) (is : Tys) (c : Bool) (o : MaybeTy) (ts rest : List Tok) → room_tys is + room_output o ≤ k → TysForm is → OutputForm o → TysThen c is (list_of us) → OutputThen o ts rest → Pauses (takes_output false o) (takes_output true o) rest → Ends (ends_output o) rest → SignatureGot (signature_body r (list_of us, s, ts) at) is o rest
unfolding signature_body
signature_got r k w at s us is c o ts rest m f i h n b d =
    let g = w.tys s is c (list_of us) (omega (arith, m)) f h in
    let q = output_got r k w at o ts rest (omega (arith, m)) i n b d in
    (g.0, q.0, bind_at (r.tys s (list_of us)) _ _ g.1 ∙ bind_at (output_body r at ts) _ _ q.1, q.2, g.3, q.3, g.4, q.4)

-- segments

arguments_got : (r : Readers) (k : ℕ) → Reads r k → (at : Span) (a : ArgumentsD) (ts rest : List Tok) → room_arguments a ≤ k → ArgumentsForm a → ArgumentsThen a ts rest → Pauses (takes_arguments false a) (takes_arguments true a) rest → Ends (ends_arguments a) rest → ArgumentsGot (arguments_body r at ts) a rest
unfolding arguments_body
arguments_got r k w at no_arguments ts rest m f h b d =
    subst (λ z. ArgumentsGot (arguments_body r at z) no_arguments rest) (sym h)
    (no_arguments, choose_none (angle_front rest) _ _ b.args.angle ∙ choose_none (group_front is_parens rest) _ _ b.args.round, (λ c. refl), (λ q. refl), tt)
arguments_got r k w at (angle true gs) ts rest m f h b d =
    let g = w.generics at gs h.1 rest m f h.4 in
    let e : ts ≡ mark 58 Joint h.2.0 ∷ mark 58 h.2.1 h.2.2 ∷ mark 60 h.3.0 h.3.1 ∷ h.1 = h.2.3 ∙ ap (λ z. mark 58 Joint h.2.0 ∷ mark 58 h.2.1 h.2.2 ∷ z) h.3.2 in
    subst (λ z. ArgumentsGot (arguments_body r at z) (angle true gs) rest) (sym e)
    (angle true (generics_of g.0), ap (λ z. z >>= λ u. Ok (angle true (generics_of u.0), u.1)) g.1, (λ c. refl), (λ q. ap (angle true) (g.2 q)), g.3)
arguments_got r k w at (angle false gs) ts rest m f h b d =
    let g = w.generics at gs h.1 rest m f h.4 in
    subst (λ z. ArgumentsGot (arguments_body r at z) (angle false gs) rest) (sym (h.2 ∙ h.3.2))
    (angle false (generics_of g.0), ap (λ z. z >>= λ u. Ok (angle false (generics_of u.0), u.1)) g.1, (λ c. refl), (λ q. ap (angle false) (g.2 q)), g.3)
arguments_got r k w at (parens is o) ts rest m f h b d =
    let g = signature_got r k w at h.3.0 h.0 is h.1 o h.2 rest m f.0 f.1 h.4 h.5 b d in
    subst (λ z. ArgumentsGot (arguments_body r at z) (parens is o) rest) (sym h.3.1)
    (parens (tys_of g.0) g.1, ap (λ z. z >>= λ u. Ok (parens (tys_of u.0) u.1, u.2)) g.2, g.3, (λ q. ap (λ z. parens z g.1) (g.4 q.0) ∙ ap (parens is) (g.5 q.1)), (g.6, g.7))

segment_got : (r : Readers) (k : ℕ) → Reads r k → (at : Span) (s : SegmentD) (ts rest : List Tok) → room_segment s ≤ k → SegmentForm s → SegmentThen s ts rest → Pauses (takes_segment false s) (takes_segment true s) rest → Ends (ends_segment s) rest → SegmentGot (segment_body r at ts) s rest
unfolding segment_body
segment_got r k w at (segment x a) ts rest m f h b d =
    let g = arguments_got r k w at a h.0 rest m f.1 h.2 b d in
    let e : segment_front ts ≡ Some (x, h.0) = ap segment_front h.1 ∙ segment_word x.text x.span h.0 f.0 in
    (segment x g.0, ap (λ z. required z ExpectedIdent at ts >>= λ y. arguments_body r at y.1 >>= λ v. Ok (segment y.0 v.0, v.1)) e ∙ bind_at (arguments_body r at h.0) _ _ g.1, g.2, (λ q. ap (segment x) (g.3 q)), g.4)

further_at : (x : List ℕ) (v : Span) (b ts a : List Tok) → PairThen 58 58 ts a → a ≡ word x v ∷ b → (further_front ts ≡ Some a) × ArgStops ts × NoBang ts × (sign_next 43 ts ≡ false)
further_at x v b ts a p e =
    let q : ts ≡ mark 58 Joint p.0 ∷ mark 58 p.1 p.2 ∷ word x v ∷ b = p.3 ∙ ap (λ z. mark 58 Joint p.0 ∷ mark 58 p.1 p.2 ∷ z) e in
    (ap further_front q ∙ ap Some (sym e), subst ArgStops (sym q) (stops_further p.0 p.2 v p.1 x b), ap (λ z. choose (sign_front 33 z) tree_front None) q, ap (sign_next 43) q)

segments_got : (r : Readers) (k : ℕ) → Reads r k → (at : Span) (ss : Segments) (ts rest : List Tok) → room_segments ss ≤ suc k → 0 < segments_count ss → SegmentsForm 0 ss → SegmentsThen 0 false ss ts rest → Beyond (gives_last false ss) (ends_segments false ss) rest → SegmentsGot (segments_body r at ts) ss rest
unfolding segments_body
segments_got r k w at end_segments ts rest m c f h b = absurd (omega (arith, c))
segments_got r k w at (more_segments s end_segments) ts rest m c f h b =
    let t = subst (λ z. SegmentThen s z rest) (sym h.3) (subst (λ z. SegmentThen s h.0 z) (h.5 ∙ h.6) h.4) in
    let g = segment_got r k w at s ts rest (omega (arith, m)) f.0 t (stops_pauses (takes_segment false s) (takes_segment true s) rest b.0 b.1) b.2 in
    (g.0 ∷ [], bind_at (segment_body r at ts) _ _ g.1 ∙ choose_none (cond (gives_segment g.0) None (further_front rest)) _ _ (cond_none (gives_segment g.0) (further_front rest) b.0.further), refl, (λ was. g.2 true), (λ q. ap (λ z. more_segments z end_segments) (g.3 q.0)), (g.4, tt))
segments_got r k w at (more_segments s (more_segments (segment x a) ss)) ts rest m c f h b =
    let back : gives_segment s ≡ false = not_last (gives_segment s) f.1 in
    let u = unled (more_segments (segment x a) ss) h.2 rest (omega arith) h.6 in
    let e = further_at x.text x.span u.2.4.0 h.2 u.0 u.1 (u.2.3 ∙ u.2.4.1) in
    let t = subst (λ z. SegmentThen s z h.2) (sym h.3) (subst (λ z. SegmentThen s h.0 z) h.5 h.4) in
    let g = segment_got r k w at s ts h.2 (omega (arith, m)) f.0 t (behind s h.2 back e.1 e.2) (λ q. e.3) in
    let d = w.segments at (more_segments (segment x a) ss) u.0 rest (omega (arith, m)) (omega arith) f.2 u.2 b in
    let v : cond (gives_segment g.0) None (further_front h.2) ≡ Some u.0 = ap (λ z. cond z None (further_front h.2)) (g.2 false ∙ back) ∙ e.0 in
    (g.0 ∷ d.0, bind_at (segment_body r at ts) _ _ g.1 ∙ choose_at (cond (gives_segment g.0) None (further_front h.2)) _ _ u.0 v ∙ bind_at (r.segments at u.0) _ _ d.1, ap suc d.2, (λ was. d.3 (takes_segment true g.0) ∙ ap (λ z. gives_last z (more_segments (segment x a) ss)) (g.2 true)), (λ q. ap (λ z. more_segments z (segments_of d.0)) (g.3 q.0) ∙ ap (more_segments s) (d.4 q.1)), (g.4, d.5))
  where
    not_last : (z : Bool) → (z ≡ true → false ≡ true) → z ≡ false
    not_last true q = let v = q refl in absurd (cc)
    not_last false q = refl

    behind : (s : SegmentD) (ts : List Tok) → gives_segment s ≡ false → ArgStops ts → NoBang ts → Pauses (takes_segment false s) (takes_segment true s) ts
    behind s ts back a n = record { args = a; further = λ q. absurd (cc); bang = λ q. n }

-- bounds

cond_false_at : {A : Type 0} → (b : Bool) (x y : A) → b ≡ false → cond b x y ≡ y
cond_false_at b x y e = ap (λ z. cond z x y) e

cond_true_at : {A : Type 0} → (b : Bool) (x y : A) → b ≡ true → cond b x y ≡ x
cond_true_at b x y e = ap (λ z. cond z x y) e

absent : (c : ℕ) (ts : List Tok) → sign_next c ts ≡ false → sign_front c ts ≡ None
absent c [] e = refl
absent c (t ∷ ts) e = ap (λ z. cond z (Some ts) None) e

bound_got : (r : Readers) (k : ℕ) → Reads r k → (at : Span) (b : BoundD) (ts rest : List Tok) → room_bound b ≤ k → BoundForm b → BoundThen b ts rest → Pauses (takes_bound false b) (takes_bound true b) rest → Ends (ends_bound b) rest → BoundGot (bound_body r at ts) b rest
unfolding bound_body
bound_got r k w at (bound_trait p) ts rest m f h c d =
    let g = path_read_back r k w at p ts rest m f h (pauses_stop (gives_path p) rest c, c.bang, d) in
    (bound_trait g.0, choose_none (lifetime_front ts) _ _ (start_no_lifetime ts (path_begins p ts rest f h)) ∙ bind_at (path_body r at ts) _ _ g.1, (λ q. ap bound_trait (g.3 q)), g.4, λ z. ap (λ y. cond z y true) g.2)
bound_got r k w at (bound_lifetime l) ts rest m f h c d = subst (λ z. BoundGot (bound_body r at z) (bound_lifetime l) rest) (sym h) (bound_lifetime l, refl, (λ q. refl), tt, λ z. refl)

abbrev behind_bound : Readers → Span → BoundD → List Tok → Read (List BoundD)
behind_bound r at u ts = choose (sign_front 43 ts) (λ a. r.bounds at a >>= λ more. Ok (u ∷ more.0, more.1)) (Ok (u ∷ [], ts))

-- behind a bound whose end takes a `::` where c says so, and a `!` where d does
abbrev TailGot : Readers → Span → Bool → Bool → Bool → Bounds → List Tok → List Tok → Type 0
TailGot r at o c d bs ts rest = (us : List BoundD) × Pauses c d ts × Ends o ts × ((u : BoundD) → behind_bound r at u ts ≡ Ok (u ∷ us, rest)) × (BoundsLengths bs → bounds_of us ≡ bs) × BoundsLengths (bounds_of us) × ((z was : Bool) → takes_bounds z was (bounds_of us) ≡ takes_bounds z was bs)

plus_got : (r : Readers) (k : ℕ) → Reads r k → (at : Span) (o c d : Bool) (bs : Bounds) (ts a rest : List Tok) → room_bounds bs ≤ k → o ≡ false → BoundsForm bs → SignThen 43 ts a → BoundsThen bs a rest → Pauses (takes_bounds false false bs) (takes_bounds true false bs) rest → Over bs rest → TailGot r at o c d bs ts rest
plus_got r k w at o c d bs ts a rest m n f p h x y =
    let g = w.bounds at bs a rest m f h x y in
    subst (λ z. TailGot r at o c d bs z rest) (sym p.2)
    (g.0, halt_pauses c d (mark 43 p.0 p.1 ∷ a) (halt_plus p.0 p.1 a), (λ q. absurd (cc)), (λ u. bind_at (r.bounds at a) _ _ g.1), g.2, g.3, g.4)

tail_got : (r : Readers) (k : ℕ) → Reads r k → (at : Span) (o c d : Bool) (bs : Bounds) (ts rest : List Tok) → room_bounds bs ≤ k → (has_bounds bs ≡ true → o ≡ false) → BoundsForm bs → BoundsBehind o bs ts rest → Pauses (takes_bounds false c bs) (takes_bounds true d bs) rest → sign_next 43 rest ≡ false → TailGot r at o c d bs ts rest
tail_got r k w at o c d end_bounds ts rest m n f (inl e) x y =
    subst (λ z. TailGot r at o c d end_bounds z rest) (sym e) ([], x, (λ q. y), (λ u. choose_none (sign_front 43 rest) _ _ (absent 43 rest y)), (λ q. refl), tt, λ z was. refl)
tail_got r k w at o c d end_bounds ts rest m n f (inr h) x y = plus_got r k w at o c d end_bounds ts rest rest m h.1 f h.0 refl (pauses_bare rest x.args) (y, λ q. h.2)
tail_got r k w at o c d (more_bounds b bs) ts rest m n f h x y = plus_got r k w at o c d (more_bounds b bs) ts h.0 rest m (n refl) f h.2 (h.1, h.3, h.4) x (y, λ q. absurd (cc))

bounds_got : (r : Readers) (k : ℕ) → Reads r k → (at : Span) (bs : Bounds) (ts rest : List Tok) → room_bounds bs ≤ suc k → BoundsForm bs → BoundsThen bs ts rest → Pauses (takes_bounds false false bs) (takes_bounds true false bs) rest → Over bs rest → BoundsGot (bounds_body r at ts) bs rest
unfolding bounds_body
bounds_got r k w at end_bounds ts rest m f h c d =
    subst (λ z. BoundsGot (bounds_body r at z) end_bounds rest) (sym h)
    ([], cond_false_at (bound_next rest) _ _ (d.1 refl) ∙ cond_false_at (sign_next 43 rest) _ _ d.0, (λ q. refl), tt, λ z was. refl)
bounds_got r k w at (more_bounds b bs) ts rest m f h c d =
    let t = tail_got r k w at (ends_bound b) (takes_bound false b) (takes_bound true b) bs h.0 rest (omega (arith, m)) f.1 f.2 h.2 c d.0 in
    let g = bound_got r k w at b ts h.0 (omega (arith, m)) f.0 h.1 t.1 t.2 in
    (g.0 ∷ t.0, cond_true_at (bound_next ts) _ _ (bound_begins b ts h.0 f.0 h.1) ∙ bind_at (bound_body r at ts) _ _ g.1 ∙ t.3 g.0, (λ q. ap (λ z. more_bounds z (bounds_of t.0)) (g.2 q.0) ∙ ap (more_bounds b) (t.4 q.1)), (g.3, t.5), λ z was. t.6 z (takes_bound z g.0) ∙ ap (λ v. takes_bounds z v bs) (g.4 z))

-- lists of types

abbrev Head : List Tok → Type 0
Head ts = (u : Tok) × (us : List Tok) × (ts ≡ u ∷ us)

start_head : (ts : List Tok) → PathStart ts → Head ts
start_head ts (at_colons s u v j x b e) = (mark 58 Joint s, mark 58 j u ∷ word x v ∷ b, e)
start_head ts (at_word s x b h e) = (word x s, b, e)

ty_head : (t : TyD) (ts rest : List Tok) → TyForm t → TyThen t ts rest → Head ts
ty_head (ty_array t e) ts rest f h = (_, _, h.3.1)
ty_head (ty_fn is o) ts rest f h = (_, _, h.4.1)
ty_head (ty_group t) ts rest f h = absurd f
ty_head (ty_impl bs) ts rest f h = (_, _, h.1.1)
ty_head (ty_infer s) ts rest f h = (_, _, h)
ty_head (ty_macro p m) ts rest f h = start_head ts (path_begins p ts h.0 f.0 h.2)
ty_head (ty_never s) ts rest f h = (_, _, h.1)
ty_head (ty_paren t) ts rest f h = (_, _, h.1.1)
ty_head (ty_path no_qself (path l ss)) ts rest f h = start_head ts (path_start 0 l ss ts rest f.1.0 f.1.1 (subst (λ z. SegmentsThen 0 l ss z rest) (sym h.1) h.2))
ty_head (ty_path (some_qself (qself t n)) p) ts rest f h = (_, _, h.1.2.2)
ty_head (ty_pointer m t) ts rest f h = (_, _, h.2.2)
ty_head (ty_reference l m t) ts rest f h = (_, _, h.3.2)
ty_head (ty_slice t) ts rest f h = (_, _, h.1.1)
ty_head (ty_object bs) ts rest f h = (_, _, h.1.1)
ty_head (ty_tuple is) ts rest f h = (_, _, h.2.1)
ty_head (ty_verbatim m) ts rest f h = absurd f

last_got : (r : Readers) (k : ℕ) → Reads r k → (at : Span) (t : TyD) (c : Bool) (u : Tok) (us a : List Tok) → room_ty t ≤ k → TyForm t → TyThen t (u ∷ us) a → LastComma c a → TysGot (tys_body r at (u ∷ us)) (more_tys t end_tys) c
unfolding tys_body
last_got r k w at t false u us a m f h l =
    let g = w.ty at t (u ∷ us) [] m f (subst (λ z. TyThen t (u ∷ us) z) l h) (halt_pauses (takes_ty false t) (takes_ty true t) [] halt_end) (λ q. shut_end.plus) in
    (g.0 ∷ [], bind_at (r.ty at (u ∷ us)) _ _ g.1, refl, (λ q. ap (λ z. more_tys z end_tys) (g.2 q.0)), (g.3, tt))
last_got r k w at t true u us a m f h l =
    let g = w.ty at t (u ∷ us) (mark 44 l.0 l.1 ∷ []) m f (subst (λ z. TyThen t (u ∷ us) z) l.2 h) (halt_pauses (takes_ty false t) (takes_ty true t) (mark 44 l.0 l.1 ∷ []) (halt_comma l.0 l.1 [])) (λ q. (shut_comma l.0 l.1 []).plus) in
    (g.0 ∷ [], bind_at (r.ty at (u ∷ us)) _ _ g.1, refl, (λ q. ap (λ z. more_tys z end_tys) (g.2 q.0)), (g.3, tt))

more_got : (r : Readers) (k : ℕ) → Reads r k → (at : Span) (t : TyD) (is : Tys) (c : Bool) (u : Tok) (us : List Tok) (v : Tok) (vs : List Tok) (a b : List Tok) → room_ty t + room_tys is ≤ k → TyForm t → TysForm is → TyThen t (u ∷ us) a → SignThen 44 a b → b ≡ v ∷ vs → TysThen c is b → TysGot (tys_body r at (u ∷ us)) (more_tys t is) c
unfolding tys_body
more_got r k w at t is c u us v vs a b m f i h l e n =
    let q : a ≡ mark 44 l.0 l.1 ∷ v ∷ vs = l.2 ∙ ap (λ z. mark 44 l.0 l.1 ∷ z) e in
    let g = w.ty at t (u ∷ us) (mark 44 l.0 l.1 ∷ v ∷ vs) (omega (arith, m)) f (subst (λ z. TyThen t (u ∷ us) z) q h) (halt_pauses (takes_ty false t) (takes_ty true t) (mark 44 l.0 l.1 ∷ v ∷ vs) (halt_comma l.0 l.1 (v ∷ vs))) (λ q. (shut_comma l.0 l.1 (v ∷ vs)).plus) in
    let d = w.tys at is c (v ∷ vs) (omega (arith, m)) i (subst (λ z. TysThen c is z) e n) in
    (g.0 ∷ d.0, bind_at (r.ty at (u ∷ us)) _ _ g.1 ∙ bind_at (r.tys at (v ∷ vs)) _ _ d.1, ap suc d.2, (λ q. ap (λ z. more_tys z (tys_of d.0)) (g.2 q.0) ∙ ap (more_tys t) (d.3 q.1)), (g.3, d.4))

tys_got : (r : Readers) (k : ℕ) → Reads r k → (at : Span) (is : Tys) (c : Bool) (ts : List Tok) → room_tys is ≤ suc k → TysForm is → TysThen c is ts → TysGot (tys_body r at ts) is c
unfolding tys_body
tys_got r k w at end_tys c ts m f h = subst (λ z. TysGot (tys_body r at z) end_tys c) (sym h.0) ([], ap (λ z. Ok ([], z)) (sym h.1), refl, (λ q. refl), tt)
tys_got r k w at (more_tys t end_tys) c ts m f h =
    let d = ty_head t ts h.0 f.0 h.1 in
    subst (λ z. TysGot (tys_body r at z) (more_tys t end_tys) c) (sym d.2)
    (last_got r k w at t c d.0 d.1 h.0 (omega (arith, m)) f.0 (subst (λ z. TyThen t z h.0) d.2 h.1) h.2)
tys_got r k w at (more_tys t (more_tys v is)) c ts m f h =
    let d = ty_head t ts h.0 f.0 h.1 in
    let e = ty_head v h.2.0 h.2.1 f.1.0 h.2.3 in
    subst (λ z. TysGot (tys_body r at z) (more_tys t (more_tys v is)) c) (sym d.2)
    (more_got r k w at t (more_tys v is) c d.0 d.1 e.0 e.1 h.0 h.2.0 (omega (arith, m)) f.0 f.1 (subst (λ z. TyThen t z h.0) d.2 h.1) h.2.2 e.2 (h.2.1, h.2.3, h.2.4))

-- generic arguments

pub record Edge (ts : List Tok) : Type 0 where
  pub halt : Halt ts
  pub shut : Shut ts
  pub unlabelled : Unlabelled ts
  pub single : sign_front 58 ts ≡ None

edge_comma : (ts a : List Tok) → SignThen 44 ts a → Edge ts
edge_comma ts a h = subst Edge (sym h.2) (record { halt = halt_comma h.0 h.1 a; shut = shut_comma h.0 h.1 a; unlabelled = unlabelled_comma h.0 h.1 a; single = refl })

edge_close : (ts a : List Tok) → SignThen 62 ts a → Edge ts
edge_close ts a h = subst Edge (sym h.2) (record { halt = halt_close h.0 h.1 a; shut = shut_close h.0 h.1 a; unlabelled = unlabelled_close h.0 h.1 a; single = refl })

abbrev ConstantAt : ExprD → List Tok → List Tok → Type 0
ConstantAt e ts rest = (constant_front ts ≡ Some (e, rest)) × (lifetime_front ts ≡ None) × (sign_front 62 ts ≡ None)

constant_at : (e : ExprD) (ts rest : List Tok) → IsConstant e → ExprThen e ts rest → ConstantAt e ts rest
constant_at (ex_binary a o b) ts rest f h = absurd f
constant_at (ex_call g xs) ts rest f h = absurd f
constant_at (ex_cast e t) ts rest f h = absurd f
constant_at (ex_field e m) ts rest f h = absurd f
constant_at (ex_index e i) ts rest f h = absurd f
constant_at (ex_fixed l s) ts rest f h = subst (λ z. ConstantAt (ex_fixed l s) z rest) (sym h) (refl, refl, refl)
constant_at (ex_paren e) ts rest f h = absurd f
constant_at (ex_path p) ts rest f h = absurd f
constant_at (ex_unary o e) ts rest f h = absurd f
constant_at (ex_verbatim m) ts rest (inl f) h =
    subst (λ z. ConstantAt (ex_verbatim m) z rest) (sym h)
    (subst (λ z. ConstantAt (ex_verbatim z) (z ++ rest) rest) (sym f.4) (refl, refl, refl))
constant_at (ex_verbatim m) ts rest (inr f) h =
    subst (λ z. ConstantAt (ex_verbatim m) z rest) (sym h)
    (subst (λ z. ConstantAt (ex_verbatim z) (z ++ rest) rest) (sym f.2) (refl, refl, refl))

generic_got : (r : Readers) (k : ℕ) → Reads r k → (at : Span) (g : GenericD) (ts rest : List Tok) → room_generic g ≤ k → GenericForm g → GenericThen g ts rest → Edge rest → GenericGot (generic_body r at ts) g rest × (sign_front 62 ts ≡ None)
unfolding generic_body
generic_got r k w at (arg_lifetime l) ts rest m f h b = subst (λ z. GenericGot (generic_body r at z) (arg_lifetime l) rest × (sign_front 62 z ≡ None)) (sym h) ((arg_lifetime l, refl, (λ q. refl), tt), refl)
generic_got r k w at (arg_ty t) ts rest m f h b =
    let p = plain_ty t ts rest f h b.unlabelled in
    let g = w.ty at t ts rest m f h (halt_pauses (takes_ty false t) (takes_ty true t) rest b.halt) (λ q. b.shut.plus) in
    ((arg_ty g.0, choose_none (lifetime_front ts) _ _ p.lifetime ∙ choose_none (constant_front ts) _ _ p.constant ∙ choose_none (labelled (sign_front 61) (name_front ts)) _ _ p.equals ∙ choose_none (labelled colon_front (name_front ts)) _ _ p.colon ∙ bind_at (r.ty at ts) _ _ g.1, (λ q. ap arg_ty (g.2 q)), g.3), p.close)
generic_got r k w at (arg_const e) ts rest m f h b =
    let c = constant_at e ts rest f h in
    ((arg_const e, choose_none (lifetime_front ts) _ _ c.1 ∙ choose_at (constant_front ts) _ _ (e, rest) c.0, (λ q. refl), tt), c.2)
generic_got r k w at (arg_assoc_ty x t) ts rest m f h b =
    let p = plain_ty t h.1 rest f h.4 b.unlabelled in
    let g = w.ty at t h.1 rest m f h.4 (halt_pauses (takes_ty false t) (takes_ty true t) rest b.halt) (λ q. b.shut.plus) in
    let e : ts ≡ word x.text x.span ∷ mark 61 h.3.0 h.3.1 ∷ h.1 = h.2 ∙ ap (λ z. word x.text x.span ∷ z) h.3.2 in
    subst (λ z. GenericGot (generic_body r at z) (arg_assoc_ty x t) rest × (sign_front 62 z ≡ None)) (sym e)
    ((arg_assoc_ty x g.0, choose_none (constant_front h.1) _ _ p.constant ∙ bind_at (r.ty at h.1) _ _ g.1, (λ q. ap (arg_assoc_ty x) (g.2 q)), g.3), refl)
generic_got r k w at (arg_assoc_const x v) ts rest m f h b =
    let c = constant_at v h.1 rest f h.4 in
    let e : ts ≡ word x.text x.span ∷ mark 61 h.3.0 h.3.1 ∷ h.1 = h.2 ∙ ap (λ z. word x.text x.span ∷ z) h.3.2 in
    subst (λ z. GenericGot (generic_body r at z) (arg_assoc_const x v) rest × (sign_front 62 z ≡ None)) (sym e)
    ((arg_assoc_const x v, choose_at (constant_front h.1) _ _ (v, rest) c.0, (λ q. refl), tt), refl)
generic_got r k w at (arg_constraint x bs) ts rest m f h b =
    let g = w.bounds at bs h.1 rest m f h.4 (halt_pauses (takes_bounds false false bs) (takes_bounds true false bs) rest b.halt) (shut_over bs rest b.shut) in
    let c = colon_bounds bs h.3.0 h.3.1 h.1 rest f h.4 b.single in
    let e : ts ≡ word x.text x.span ∷ mark 58 h.3.0 h.3.1 ∷ h.1 = h.2 ∙ ap (λ z. word x.text x.span ∷ z) h.3.2 in
    subst (λ z. GenericGot (generic_body r at z) (arg_constraint x bs) rest × (sign_front 62 z ≡ None)) (sym e)
    ((arg_constraint x (bounds_of g.0), choose_at (option_map (λ us. (x, us)) (colon_front (mark 58 h.3.0 h.3.1 ∷ h.1))) _ _ (x, h.1) (ap (option_map (λ us. (x, us))) c) ∙ bind_at (r.bounds at h.1) _ _ g.1, (λ q. ap (arg_constraint x) (g.2 q)), g.3), refl)

comma_got : (r : Readers) (k : ℕ) → Reads r k → (at : Span) (g : GenericD) (gs : Generics) (ts a b rest : List Tok) → room_generic g + room_generics gs ≤ k → GenericForm g → GenericsForm gs → GenericThen g ts a → SignThen 44 a b → GenericsThen gs b rest → GenericsGot (generics_body r at ts) (more_generics g gs) rest
unfolding generics_body
comma_got r k w at g gs ts a b rest m f i h l n =
    let v = generic_got r k w at g ts a (omega (arith, m)) f h (edge_comma a b l) in
    let u = v.0 in
    let d = w.generics at gs b rest (omega (arith, m)) i n in
    let c : sign_front 62 a ≡ None = ap (sign_front 62) l.2 in
    let e : sign_front 44 a ≡ Some b = ap (sign_front 44) l.2 in
    (u.0 ∷ d.0, choose_none (sign_front 62 ts) _ _ v.1 ∙ bind_at (generic_body r at ts) _ _ u.1 ∙ choose_none (sign_front 62 a) _ _ c ∙ bind_at (required (sign_front 44 a) ExpectedGt at a) _ b (ap (λ z. required z ExpectedGt at a) e) ∙ bind_at (r.generics at b) _ _ d.1, (λ q. ap (λ z. more_generics z (generics_of d.0)) (u.2 q.0) ∙ ap (more_generics g) (d.2 q.1)), (u.3, d.3))

generics_got : (r : Readers) (k : ℕ) → Reads r k → (at : Span) (gs : Generics) (ts rest : List Tok) → room_generics gs ≤ suc k → GenericsForm gs → GenericsThen gs ts rest → GenericsGot (generics_body r at ts) gs rest
unfolding generics_body
generics_got r k w at end_generics ts rest m f h = subst (λ z. GenericsGot (generics_body r at z) end_generics rest) (sym h.2) ([], refl, (λ q. refl), tt)
generics_got r k w at (more_generics g end_generics) ts rest m f h = last (h.2.1)
  where
    last : (h.0 ≡ h.2.0) ⊎ SignThen 44 h.0 h.2.0 → GenericsGot (generics_body r at ts) (more_generics g end_generics) rest
    last (inl e) =
        let l = subst (λ z. SignThen 62 z rest) (sym e) h.2.2 in
        let v = generic_got r k w at g ts h.0 (omega (arith, m)) f.0 h.1 (edge_close h.0 rest l) in
        let u = v.0 in
        let c : sign_front 62 h.0 ≡ Some rest = ap (sign_front 62) l.2 in
        (u.0 ∷ [], choose_none (sign_front 62 ts) _ _ v.1 ∙ bind_at (generic_body r at ts) _ _ u.1 ∙ choose_at (sign_front 62 h.0) _ _ rest c, (λ q. ap (λ z. more_generics z end_generics) (u.2 q.0)), (u.3, tt))
    last (inr l) = comma_got r k w at g end_generics ts h.0 h.2.0 rest (omega (arith, m)) f.0 tt h.1 l h.2.2
generics_got r k w at (more_generics g (more_generics x xs)) ts rest m f h =
    comma_got r k w at g (more_generics x xs) ts h.0 h.2.0 rest (omega (arith, m)) f.0 f.1 h.1 h.2.2 (h.2.1, h.2.3, h.2.4)

-- the segments of a qualified path, before and behind the `>`

front_of : ℕ → Segments → Segments
front_of zero ss = end_segments
front_of (suc n) end_segments = end_segments
front_of (suc n) (more_segments s ss) = more_segments s (front_of n ss)

behind_of : ℕ → Segments → Segments
behind_of zero ss = ss
behind_of (suc n) end_segments = end_segments
behind_of (suc n) (more_segments s ss) = behind_of n ss

append : Segments → Segments → Segments
append end_segments us = us
append (more_segments s ss) us = more_segments s (append ss us)

of_append : (xs ys : List SegmentD) → segments_of (xs ++ ys) ≡ append (segments_of xs) (segments_of ys)
unfolding append
of_append [] ys = refl
of_append (x ∷ xs) ys = ap (more_segments x) (of_append xs ys)

lengths_append : (xs ys : List SegmentD) → SegmentsLengths (segments_of xs) → SegmentsLengths (segments_of ys) → SegmentsLengths (segments_of (xs ++ ys))
lengths_append [] ys h k = k
lengths_append (x ∷ xs) ys h k = (h.0, lengths_append xs ys h.1 k)

append_split : (n : ℕ) (ss : Segments) → append (front_of n ss) (behind_of n ss) ≡ ss
unfolding append front_of behind_of
append_split zero ss = refl
append_split (suc n) end_segments = refl
append_split (suc n) (more_segments s ss) = ap (more_segments s) (append_split n ss)

room_split : (n : ℕ) (ss : Segments) → room_segments (front_of n ss) + room_segments (behind_of n ss) ≡ room_segments ss
unfolding front_of behind_of
room_split zero ss = omega arith
room_split (suc n) end_segments = refl
room_split (suc n) (more_segments s ss) = let e = room_split n ss in omega (arith, e)

count_front : (n : ℕ) (ss : Segments) → n < segments_count ss → segments_count (front_of n ss) ≡ n
unfolding front_of
count_front zero ss h = refl
count_front (suc n) end_segments h = absurd (omega (arith, h))
count_front (suc n) (more_segments s ss) h = ap suc (count_front n ss (omega (arith, h)))

count_behind : (n : ℕ) (ss : Segments) → n < segments_count ss → 0 < segments_count (behind_of n ss)
unfolding behind_of
count_behind zero ss h = h
count_behind (suc n) end_segments h = absurd (omega (arith, h))
count_behind (suc n) (more_segments s ss) h = count_behind n ss (omega (arith, h))

lengths_split : (n : ℕ) (ss : Segments) → SegmentsLengths ss → SegmentsLengths (front_of n ss) × SegmentsLengths (behind_of n ss)
unfolding front_of behind_of
lengths_split zero ss h = (tt, h)
lengths_split (suc n) end_segments h = (tt, tt)
lengths_split (suc n) (more_segments s ss) h = let k = lengths_split n ss h.1 in ((h.0, k.0), k.1)

last_behind : (n : ℕ) (was was' : Bool) (ss : Segments) → n < segments_count ss → gives_last was (behind_of n ss) ≡ gives_last was' ss
unfolding behind_of
last_behind zero was was' end_segments h = absurd (omega (arith, h))
last_behind zero was was' (more_segments s ss) h = refl
last_behind (suc n) was was' end_segments h = absurd (omega (arith, h))
last_behind (suc n) was was' (more_segments s ss) h = last_behind n was (takes_segment true s) ss (omega (arith, h))

last_append : (was was' : Bool) (xs ys : List SegmentD) → 0 < length ys → gives_last was (segments_of (xs ++ ys)) ≡ gives_last was' (segments_of ys)
last_append was was' [] [] h = absurd (omega (arith, h))
last_append was was' [] (y ∷ ys) h = refl
last_append was was' (x ∷ xs) ys h = last_append (takes_segment true x) was' xs ys h

ends_behind : (n : ℕ) (was was' : Bool) (ss : Segments) → n < segments_count ss → ends_segments was (behind_of n ss) ≡ ends_segments was' ss
unfolding behind_of
ends_behind zero was was' end_segments h = absurd (omega (arith, h))
ends_behind zero was was' (more_segments s ss) h = refl
ends_behind (suc n) was was' end_segments h = absurd (omega (arith, h))
ends_behind (suc n) was was' (more_segments s ss) h = ends_behind n was (ends_segment s) ss (omega (arith, h))

two_not_one : (n : ℕ) → nat_eq (suc (suc n)) 1 ≡ false
two_not_one n = ne_eqb (suc (suc n)) 1 (λ q. omega (arith, q))

form_split : (n : ℕ) (ss : Segments) → suc n < segments_count ss → SegmentsForm (suc n) ss → SegmentsForm 0 (front_of (suc n) ss) × SegmentsForm 0 (behind_of (suc n) ss)
unfolding front_of behind_of
form_split n end_segments c f = absurd (omega (arith, c))
form_split zero (more_segments s ss) c f = ((f.0, (λ g. refl), tt), f.2)
form_split (suc n) (more_segments s end_segments) c f = absurd (omega (arith, c))
form_split (suc n) (more_segments s (more_segments v ss)) c f =
    let e : suc (suc n) - 1 ≡ suc n = omega arith in
    let k = form_split n (more_segments v ss) (omega (arith, c)) (subst (λ z. SegmentsForm z (more_segments v ss)) e f.2) in
    ((f.0, (λ g. let z : false ≡ true = sym (two_not_one n) ∙ f.1 g in absurd (cc)), k.0), k.1)

abbrev SplitThen : ℕ → Bool → Segments → List Tok → List Tok → Type 0
SplitThen n l ss ts rest = (a b : List Tok) × SegmentsThen 0 l (front_of n ss) ts a × SignThen 62 a b × SegmentsThen 0 true (behind_of n ss) b rest

split : (n : ℕ) (l : Bool) (ss : Segments) (ts rest : List Tok) → n < segments_count ss → SegmentsThen (suc n) l ss ts rest → SplitThen (suc n) l ss ts rest
unfolding front_of behind_of
split n l end_segments ts rest c h = absurd (omega (arith, c))
split zero l (more_segments s ss) ts rest c h = (h.1, h.2, (h.0, h.1, h.1, h.3, h.4, refl, refl), h.5, h.6)
split (suc n) l (more_segments s ss) ts rest c h =
    let e : suc (suc n) - 1 ≡ suc n = omega arith in
    let k = split n true ss h.2 rest (omega (arith, c)) (subst (λ z. SegmentsThen z true ss h.2 rest) e h.6) in
    (k.0, k.1, (h.0, h.1, h.2, h.3, h.4, subst (λ z. CloseThen z h.1 h.2) (two_not_one n) h.5, k.2), k.3, k.4)

-- `>::` and the segments behind it
behind_got : (r : Readers) (k : ℕ) → Reads r k → (at : Span) (ss : Segments) (ts a rest : List Tok) → room_segments ss ≤ k → 0 < segments_count ss → SegmentsForm 0 ss → SignThen 62 ts a → SegmentsThen 0 true ss a rest → Beyond (gives_last false ss) (ends_segments false ss) rest → SegmentsGot (behind_body r at ts) ss rest
unfolding behind_body
behind_got r k w at ss ts a rest m c f o h b =
    let u = unled ss a rest c h in
    let g = w.segments at ss u.0 rest m c f u.2 b in
    let e : ts ≡ mark 62 o.0 o.1 ∷ mark 58 Joint u.1.0 ∷ mark 58 u.1.1 u.1.2 ∷ u.0 = o.2 ∙ ap (λ z. mark 62 o.0 o.1 ∷ z) u.1.3 in
    subst (λ z. SegmentsGot (behind_body r at z) ss rest) (sym e) g

abbrev TraitGot : Result (Bool × List SegmentD × List Tok) SyntaxError → Bool → Segments → List Tok → Type 0
TraitGot v l ss rest = (us : List SegmentD) × (v ≡ Ok (l, us, rest)) × (length us ≡ segments_count ss) × (SegmentsLengths ss → segments_of us ≡ ss) × SegmentsLengths (segments_of us)

trait_got : (r : Readers) (k : ℕ) → Reads r k → (at : Span) (l : Bool) (ss : Segments) (ts rest : List Tok) → room_segments ss ≤ k → 0 < segments_count ss → SegmentsForm 0 ss → SegmentsThen 0 l ss ts rest → Beyond (gives_last false ss) (ends_segments false ss) rest → TraitGot (trait_body r at ts) l ss rest
unfolding trait_body
trait_got r k w at l end_segments ts rest m c f h b = absurd (omega (arith, c))
trait_got r k w at true (more_segments s ss) ts rest m c f h b =
    let u = unled (more_segments s ss) ts rest c h in
    let g = w.segments at (more_segments s ss) u.0 rest m c f u.2 b in
    subst (λ z. TraitGot (trait_body r at z) true (more_segments s ss) rest) (sym u.1.3)
    (g.0, ap (λ z. z >>= λ us. Ok (true, us.0, us.1)) g.1, g.2, g.4, g.5)
trait_got r k w at false (more_segments (segment x a) ss) ts rest m c f h b =
    let g = w.segments at (more_segments (segment x a) ss) ts rest m c f h b in
    let e : colons_front ts ≡ None = ap colons_front (h.3 ∙ h.4.1) in
    (g.0, choose_none (colons_front ts) _ _ e ∙ bind_at (r.segments at ts) _ _ g.1, g.2, g.4, g.5)

abbrev QualifiedGot : Read ExprPathD → TyD → ℕ → Bool → Segments → List Tok → Type 0
QualifiedGot v t n l ss rest = (u : TyD) × (us : Segments) × (v ≡ Ok (expr_path (some_qself (qself u n)) (path l us), rest)) × (TyLengths t → u ≡ t) × (SegmentsLengths ss → us ≡ ss) × TyLengths u × SegmentsLengths us × (gives_last false us ≡ gives_last false ss)

bare_got : (r : Readers) (k : ℕ) → Reads r k → (at : Span) (t : TyD) (ss : Segments) (ts b c rest : List Tok) → room_ty t + room_segments ss ≤ k → TyForm t → 0 < segments_count ss → SegmentsForm 0 ss → TyThen t ts b → SignThen 62 b c → SegmentsThen 0 true ss c rest → Beyond (gives_last false ss) (ends_segments false ss) rest → QualifiedGot (qualified_body r at ts) t 0 true ss rest
unfolding qualified_body
bare_got r k w at t ss ts b c rest m f n s h o q y =
    let e = edge_close b c o in
    let g = w.ty at t ts b (omega (arith, m)) f h (halt_pauses (takes_ty false t) (takes_ty true t) b e.halt) (λ z. e.shut.plus) in
    let d = behind_got r k w at ss b c rest (omega (arith, m)) n s o q y in
    let a : keyword_front (codes "as") b ≡ None = ap (keyword_front (codes "as")) o.2 in
    (g.0, segments_of d.0, bind_at (r.ty at ts) _ _ g.1 ∙ choose_none (keyword_front (codes "as") b) _ _ a ∙ bind_at (behind_body r at b) _ _ d.1, g.2, d.4, g.3, d.5, d.3 false)

as_got : (r : Readers) (k : ℕ) → Reads r k → (at : Span) (t : TyD) (n : ℕ) (l : Bool) (ss : Segments) (ts b c rest : List Tok) → room_ty t + room_segments ss ≤ k → TyForm t → suc n < segments_count ss → SegmentsForm (suc n) ss → TyThen t ts b → WordThen (codes "as") b c → SegmentsThen (suc n) l ss c rest → Beyond (gives_last false ss) (ends_segments false ss) rest → QualifiedGot (qualified_body r at ts) t (suc n) l ss rest
unfolding qualified_body
as_got r k w at t n l ss ts b c rest m f i s h o q y =
    let v = split n l ss c rest (omega (arith, i)) q in
    let x = room_split (suc n) ss in
    let p = form_split n ss i s in
    let fc = count_front (suc n) ss i in
    let bc = count_behind (suc n) ss i in
    let hb : Halt b = subst Halt (sym o.1) (halt_as o.0 c) in
    let sb : Shut b = subst Shut (sym o.1) (shut_as o.0 c) in
    let g = w.ty at t ts b (omega (arith, m)) f h (halt_pauses (takes_ty false t) (takes_ty true t) b hb) (λ z. sb.plus) in
    let e = edge_close v.0 v.1 v.3 in
    let tr = trait_got r k w at l (front_of (suc n) ss) c v.0 (omega (arith, m, x)) (omega (arith, fc)) p.0 v.2 (e.halt.stops, (λ z. e.halt.bang), (λ z. e.shut.plus)) in
    let lb = subst (λ z. z ≡ true → NoBang rest) (sym (last_behind (suc n) false false ss i)) y.1 in
    let eb = subst (λ z. Ends z rest) (sym (ends_behind (suc n) false false ss i)) y.2 in
    let d = behind_got r k w at (behind_of (suc n) ss) v.0 v.1 rest (omega (arith, m, x)) bc p.1 v.3 v.4 (y.0, lb, eb) in
    let a : keyword_front (codes "as") b ≡ Some c = ap (keyword_front (codes "as")) o.1 in
    let z : length tr.0 ≡ suc n = tr.2 ∙ fc in (
      g.0,
      segments_of (tr.0 ++ d.0),
      bind_at (r.ty at ts) _ _ g.1 ∙ choose_at (keyword_front (codes "as") b) _ _ c a ∙ bind_at (trait_body r at c) _ _ tr.1 ∙ bind_at (behind_body r at v.0) _ _ d.1 ∙ ap (λ j. Ok (expr_path (some_qself (qself g.0 j)) (path l (segments_of (tr.0 ++ d.0))), rest)) z,
      g.2,
      (λ j. let k2 = lengths_split (suc n) ss j in of_append tr.0 d.0 ∙ ap (λ z. append z (segments_of d.0)) (tr.3 k2.0) ∙ ap (append (front_of (suc n) ss)) (d.4 k2.1) ∙ append_split (suc n) ss),
      g.3,
      lengths_append tr.0 d.0 tr.4 d.5,
      last_append false false tr.0 d.0 (subst (λ j. 0 < j) (sym d.2) bc) ∙ d.3 false ∙ last_behind (suc n) false false ss i,
    )

qualified_got : (r : Readers) (k : ℕ) → Reads r k → (at : Span) (t : TyD) (n : ℕ) (l : Bool) (ss : Segments) (ts b c rest : List Tok) → room_ty t + room_segments ss ≤ k → QSelfForm (qself t n) (path l ss) → SegmentsForm n ss → TyThen t ts b → cond (nat_eq n 0) (SignThen 62 b c) (WordThen (codes "as") b c) → SegmentsThen n l ss c rest → Beyond (gives_last false ss) (ends_segments false ss) rest → QualifiedGot (qualified_body r at ts) t n l ss rest
qualified_got r k w at t zero true ss ts b c rest m f s h o q y = bare_got r k w at t ss ts b c rest m f.0 f.1 s h o q y
qualified_got r k w at t zero false ss ts b c rest m f s h o q y = let e : false ≡ true = f.2 refl in absurd (cc)
qualified_got r k w at t (suc n) l ss ts b c rest m f s h o q y =
    let e : nat_eq (suc n) 0 ≡ false = ne_eqb (suc n) 0 (λ z. omega (arith, z)) in
    as_got r k w at t n l ss ts b c rest m f.0 f.1 s h (subst (λ z. cond z (SignThen 62 b c) (WordThen (codes "as") b c)) e o) q y

start_no_sign : (c : ℕ) (ts : List Tok) → nat_eq c 58 ≡ false → PathStart ts → sign_front c ts ≡ None
start_no_sign c ts n (at_colons s u v j x b e) = ap (sign_front c) e ∙ ap (λ z. cond z (Some (mark 58 j u ∷ word x v ∷ b)) None) n
start_no_sign c ts n (at_word s x b h e) = ap (sign_front c) e

expr_path_got : (r : Readers) (k : ℕ) → Reads r k → (at : Span) (p : ExprPathD) (ts : List Tok) → room_expr_path p ≤ suc k → ExprPathForm p → ExprPathThen p ts [] → ExprPathGot (expr_path_body r at ts) p []
unfolding expr_path_body
expr_path_got r k w at (expr_path no_qself (path l ss)) ts m f h =
    let q = subst (λ z. SegmentsThen 0 l ss z []) (sym h.1) h.2 in
    let g = path_got r k w at l ss ts [] (omega (arith, m)) f.1.0 f.1.1 q (halt_end.stops, (λ z. halt_end.bang), λ z. shut_end.plus) in
    (expr_path no_qself g.0, choose_none (sign_front 60 ts) _ _ (start_no_sign 60 ts refl (path_start 0 l ss ts [] f.1.0 f.1.1 q)) ∙ bind_at (path_body r at ts) _ _ g.1, (λ z. ap (expr_path no_qself) (g.3 z.1)), (tt, g.4))
expr_path_got r k w at (expr_path (some_qself (qself t n)) (path l ss)) ts m f h =
    let g = qualified_got r k w at t n l ss h.1.0 h.1.1 h.0 [] (omega (arith, m)) f.0 f.1.1 h.1.3 h.1.4 h.2 (halt_end.stops, (λ z. halt_end.bang), λ z. shut_end.plus) in
    subst (λ z. ExprPathGot (expr_path_body r at z) (expr_path (some_qself (qself t n)) (path l ss)) []) (sym h.1.2.2)
    (expr_path (some_qself (qself g.0 n)) (path l g.1), g.2, (λ z. ap (λ v. expr_path (some_qself (qself v n)) (path l g.1)) (g.3 z.0) ∙ ap (λ v. expr_path (some_qself (qself t n)) (path l v)) (g.4 z.1)), (g.5, g.6))

-- lengths

length_at_start : (r : Readers) (at : Span) (ts : List Tok) → PathStart ts → length_body r at ts ≡ Ok (other_length ts (whole at (r.expr_path at ts)))
unfolding length_body
length_at_start r at ts (at_colons s u v j x b e) = ap (length_body r at) e ∙ ap (λ z. Ok (other_length z (whole at (r.expr_path at z)))) (sym e)
length_at_start r at ts (at_word s x b h e) = ap (length_body r at) e ∙ ap (λ z. Ok (other_length z (whole at (r.expr_path at z)))) (sym e)

length_at_path : (r : Readers) (at : Span) (p : ExprPathD) (ts : List Tok) → ExprPathForm p → ExprPathThen p ts [] → length_body r at ts ≡ Ok (other_length ts (whole at (r.expr_path at ts)))
unfolding length_body
length_at_path r at (expr_path no_qself (path l ss)) ts f h = length_at_start r at ts (path_start 0 l ss ts [] f.1.0 f.1.1 (subst (λ z. SegmentsThen 0 l ss z []) (sym h.1) h.2))
length_at_path r at (expr_path (some_qself (qself t n)) p) ts f h = ap (length_body r at) h.1.2.2 ∙ ap (λ z. Ok (other_length z (whole at (r.expr_path at z)))) (sym h.1.2.2)

other_got : (r : Readers) → Printed r → (at : Span) (m : List Tok) (v : Result ExprPathD SyntaxError) → whole at (r.expr_path at m) ≡ v → LengthHeld (ex_verbatim m) → other_length m v ≡ ex_verbatim m
other_got r s at m (Ok p) e h = let k = s.expr_path at m (p, []) (whole_ok at (r.expr_path at m) p e) in absurd (h.1 p k.0 k.1)
other_got r s at m (Err x) e h = refl

other_held : (r : Readers) (k : ℕ) → Reads r k → Printed r → (at : Span) (m : List Tok) → 3 * weight m ≤ k → IsNoLiteral m → (v : Result ExprPathD SyntaxError) → whole at (r.expr_path at m) ≡ v → LengthHeld (other_length m v)
other_held r k w s at m n x (Ok p) e =
    let q = whole_ok at (r.expr_path at m) p e in
    let h = s.expr_path at m (p, []) q in
    let z = expr_path_weight p m h.0 h.1 in
    let g = w.expr_path at p m (omega (arith, n, z)) h.0 h.1 in
    let same = ok_same (g.0, []) (p, []) (sym g.1 ∙ q) in
    subst (λ (z : ExprPathD × List Tok). ExprPathLengths z.0) same g.3
other_held r k w s at m n x (Err y) e = (x, none)
  where
    none : (p : ExprPathD) → ExprPathForm p → ExprPathThen p m [] → ⊥
    none p f h =
        let z = expr_path_weight p m f h in
        let g = w.expr_path at p m (omega (arith, n, z)) f h in
        let c : whole at (r.expr_path at m) ≡ Ok g.0 = ap (whole at) g.1 in
        let d : Err y ≡ Ok g.0 = sym e ∙ c in
        absurd (cc)

verbatim_got : (r : Readers) (k : ℕ) → Reads r k → Printed r → (at : Span) (t : Tok) (ts : List Tok) → 3 * weight (t ∷ ts) ≤ k → ExprGot (length_body r at (t ∷ ts)) (ex_verbatim (t ∷ ts))
unfolding length_body
verbatim_got r k w s at (word x u) ts n = (_, refl, other_got r s at (word x u ∷ ts) _ refl, other_held r k w s at (word x u ∷ ts) n (λ l z e. absurd (cc)) _ refl)
verbatim_got r k w s at (mark c j u) ts n = (_, refl, other_got r s at (mark c j u ∷ ts) _ refl, other_held r k w s at (mark c j u ∷ ts) n (λ l z e. absurd (cc)) _ refl)
verbatim_got r k w s at (fixed l u) [] n = (ex_fixed l u, refl, (λ h. absurd (h.0 l u refl)), tt)
verbatim_got r k w s at (fixed l u) (t ∷ ts) n = (_, refl, other_got r s at (fixed l u ∷ t ∷ ts) _ refl, other_held r k w s at (fixed l u ∷ t ∷ ts) n (λ l z e. absurd (cc)) _ refl)
verbatim_got r k w s at (group d us u) ts n = (_, refl, other_got r s at (group d us u ∷ ts) _ refl, other_held r k w s at (group d us u ∷ ts) n (λ l z e. absurd (cc)) _ refl)

length_got : (r : Readers) (k : ℕ) → Reads r k → Printed r → (at : Span) (e : ExprD) (ts : List Tok) → room_expr e ≤ k → LengthForm e → ExprThen e ts [] → ExprGot (length_body r at ts) e
unfolding length_body
length_got r k w s at (ex_binary a o b) ts m f h = absurd f
length_got r k w s at (ex_call g xs) ts m f h = absurd f
length_got r k w s at (ex_cast e t) ts m f h = absurd f
length_got r k w s at (ex_field e n) ts m f h = absurd f
length_got r k w s at (ex_index e i) ts m f h = absurd f
length_got r k w s at (ex_fixed l u) ts m f h = subst (λ z. ExprGot (length_body r at z) (ex_fixed l u)) (sym h) (ex_fixed l u, refl, (λ q. refl), tt)
length_got r k w s at (ex_paren e) ts m f h = absurd f
length_got r k w s at (ex_path p) ts m f h =
    let g = w.expr_path at p ts m f h in
    (ex_path g.0, length_at_path r at p ts f h ∙ ap (λ z. Ok (other_length ts (whole at z))) g.1, (λ q. ap ex_path (g.2 q)), g.3)
length_got r k w s at (ex_unary o e) ts m f h = absurd f
length_got r k w s at (ex_verbatim n) ts m f h =
    let e : 3 * weight (f.0 ∷ f.1) ≤ k = subst (λ z. 3 * weight z ≤ k) f.2 m in
    subst (λ z. ExprGot (length_body r at z) (ex_verbatim n)) (sym (h ∙ append-nil n))
    (subst (λ z. ExprGot (length_body r at z) (ex_verbatim z)) (sym f.2) (verbatim_got r k w s at f.0 f.1 e))

-- types

ty_at_path : (r : Readers) (at : Span) (ts : List Tok) → PathStart ts → ty_body r at ts ≡ path_ty r at ts
unfolding ty_body
ty_at_path r at ts (at_colons s u v j x b e) = ap (ty_body r at) e ∙ ap (path_ty r at) (sym e)
ty_at_path r at ts (at_word s x b h e) = ap (ty_body r at) e ∙ step ∙ ap (path_ty r at) (sym e)
  where
    step : ty_body r at (word x s ∷ b) ≡ path_ty r at (word x s ∷ b)
    step =
        choose_none (keyword_front (codes "_") (word x s ∷ b)) _ _ (not_keyword (codes "_") x s b h refl)
        ∙ choose_none (keyword_front (codes "fn") (word x s ∷ b)) _ _ (not_keyword (codes "fn") x s b h refl)
        ∙ choose_none (keyword_front (codes "impl") (word x s ∷ b)) _ _ (not_keyword (codes "impl") x s b h refl)
        ∙ choose_none (keyword_front (codes "dyn") (word x s ∷ b)) _ _ (not_keyword (codes "dyn") x s b h refl)
        ∙ cond_true_at (path_next (word x s ∷ b)) _ _ (word_path x s b h)

-- before a type neither a lifetime nor `mut` is read
abbrev Opens : List Tok → Type 0
Opens ts = (lifetime_front ts ≡ None) × (keyword_front (codes "mut") ts ≡ None)

start_opens : (ts : List Tok) → PathStart ts → Opens ts
start_opens ts (at_colons s u v j x b e) = subst Opens (sym e) (refl, refl)
start_opens ts (at_word s x b h e) = subst Opens (sym e) (refl, not_keyword (codes "mut") x s b h refl)

ty_opens : (t : TyD) (ts rest : List Tok) → TyForm t → TyThen t ts rest → Opens ts
ty_opens (ty_array t e) ts rest f h = subst Opens (sym h.3.1) (refl, refl)
ty_opens (ty_fn is o) ts rest f h = subst Opens (sym h.4.1) (refl, refl)
ty_opens (ty_group t) ts rest f h = absurd f
ty_opens (ty_impl bs) ts rest f h = subst Opens (sym h.1.1) (refl, refl)
ty_opens (ty_infer s) ts rest f h = subst Opens (sym h) (refl, refl)
ty_opens (ty_macro p m) ts rest f h = start_opens ts (path_begins p ts h.0 f.0 h.2)
ty_opens (ty_never s) ts rest f h = subst Opens (sym h.1) (refl, refl)
ty_opens (ty_paren t) ts rest f h = subst Opens (sym h.1.1) (refl, refl)
ty_opens (ty_path no_qself (path l ss)) ts rest f h = start_opens ts (path_start 0 l ss ts rest f.1.0 f.1.1 (subst (λ z. SegmentsThen 0 l ss z rest) (sym h.1) h.2))
ty_opens (ty_path (some_qself (qself t n)) p) ts rest f h = subst Opens (sym h.1.2.2) (refl, refl)
ty_opens (ty_pointer m t) ts rest f h = subst Opens (sym h.2.2) (refl, refl)
ty_opens (ty_reference l m t) ts rest f h = subst Opens (sym h.3.2) (refl, refl)
ty_opens (ty_slice t) ts rest f h = subst Opens (sym h.1.1) (refl, refl)
ty_opens (ty_object bs) ts rest f h = subst Opens (sym h.1.1) (refl, refl)
ty_opens (ty_tuple is) ts rest f h = subst Opens (sym h.2.1) (refl, refl)
ty_opens (ty_verbatim m) ts rest f h = absurd f

mut_got : (m : Bool) (ts rest : List Tok) → MutThen m ts rest → keyword_front (codes "mut") rest ≡ None → lifetime_front rest ≡ None → (mut_front ts ≡ (m, rest)) × (lifetime_front ts ≡ None)
mut_got true ts rest h n o = (ap mut_front h.1, ap lifetime_front h.1)
mut_got false ts rest h n o = subst (λ z. (mut_front z ≡ (false, rest)) × (lifetime_front z ≡ None)) (sym h) (choose_none (keyword_front (codes "mut") rest) _ _ n, o)

lifetime_got : (l : Option LifetimeD) (ts rest : List Tok) → MaybeLifetimeThen l ts rest → lifetime_front rest ≡ None → maybe_lifetime_front ts ≡ (l, rest)
lifetime_got None ts rest h n = ap maybe_lifetime_front h ∙ choose_none (lifetime_front rest) _ _ n
lifetime_got (Some l) ts rest h n = ap maybe_lifetime_front h

abbrev reference_tail : Readers → Span → Option LifetimeD → Bool × List Tok → Read TyD
reference_tail r at l m = r.ty at m.1 >>= λ t. Ok (ty_reference l m.0 t.0, t.1)

reference_got : (r : Readers) (k : ℕ) → Reads r k → (at : Span) (l : Option LifetimeD) (m : Bool) (t : TyD) (a b c rest : List Tok) → room_ty t ≤ k → TyForm t → MaybeLifetimeThen l a b → MutThen m b c → TyThen t c rest → Pauses (takes_ty false t) (takes_ty true t) rest → Ends (ends_ty t) rest → TyGot (reference_body r at a) (ty_reference l m t) rest
unfolding reference_body
reference_got r k w at l m t a b c rest n f h i j y z =
    let o = ty_opens t c rest f j in
    let v = mut_got m b c i o.1 o.0 in
    let u = lifetime_got l a b h v.1 in
    let g = w.ty at t c rest n f j y z in
    (ty_reference l m g.0, ap (λ (q : Option LifetimeD × List Tok). reference_tail r at q.0 (mut_front q.1)) u ∙ ap (reference_tail r at l) v.0 ∙ bind_at (r.ty at c) _ _ g.1, (λ q. ap (ty_reference l m) (g.2 q)), g.3, g.4)

pointer_got : (r : Readers) (k : ℕ) → Reads r k → (at : Span) (m : Bool) (t : TyD) (a b rest : List Tok) → room_ty t ≤ k → TyForm t → WordThen (cond m (codes "mut") (codes "const")) a b → TyThen t b rest → Pauses (takes_ty false t) (takes_ty true t) rest → Ends (ends_ty t) rest → TyGot (pointer_body r at a) (ty_pointer m t) rest
unfolding pointer_body
pointer_got r k w at true t a b rest n f h j y z =
    let g = w.ty at t b rest n f j y z in
    subst (λ v. TyGot (pointer_body r at v) (ty_pointer true t) rest) (sym h.1) (ty_pointer true g.0, bind_at (r.ty at b) _ _ g.1, (λ q. ap (ty_pointer true) (g.2 q)), g.3, g.4)
pointer_got r k w at false t a b rest n f h j y z =
    let g = w.ty at t b rest n f j y z in
    subst (λ v. TyGot (pointer_body r at v) (ty_pointer false t) rest) (sym h.1) (ty_pointer false g.0, bind_at (r.ty at b) _ _ g.1, (λ q. ap (ty_pointer false) (g.2 q)), g.3, g.4)

abbrev InsideGot : Result TyD SyntaxError → TyD → Type 0
InsideGot v t = (u : TyD) × (v ≡ Ok u) × (TyLengths t → u ≡ t) × TyLengths u × ((c : Bool) → takes_ty c u ≡ false)

array_got : (r : Readers) (k : ℕ) → Reads r k → Printed r → (at : Span) (t : TyD) (e : ExprD) (ts a b : List Tok) → room_ty t + room_expr e ≤ k → TyForm t → LengthForm e → TyThen t ts a → SignThen 59 a b → ExprThen e b [] → InsideGot (bracketed_body r at ts) (ty_array t e)
unfolding bracketed_body
array_got r k w s at t e ts a b m f l h o x =
    let g = w.ty at t ts a (omega (arith, m)) f h (halt_pauses (takes_ty false t) (takes_ty true t) a (subst Halt (sym o.2) (halt_semicolon o.0 o.1 b))) (λ q. ap (sign_next 43) o.2) in
    let d = length_got r k w s at e b (omega (arith, m)) l x in
    let c : sign_front 59 a ≡ Some b = ap (sign_front 59) o.2 in
    (ty_array g.0 d.0, bind_at (r.ty at ts) _ _ g.1 ∙ choose_at (sign_front 59 a) _ _ b c ∙ bind_at (length_body r at b) _ _ d.1, (λ q. ap (λ z. ty_array z d.0) (g.2 q.0) ∙ ap (ty_array t) (d.2 q.1)), (g.3, d.3), λ c. refl)

slice_got : (r : Readers) (k : ℕ) → Reads r k → (at : Span) (t : TyD) (ts : List Tok) → room_ty t ≤ k → TyForm t → TyThen t ts [] → InsideGot (bracketed_body r at ts) (ty_slice t)
unfolding bracketed_body
slice_got r k w at t ts m f h =
    let g = w.ty at t ts [] m f h (halt_pauses (takes_ty false t) (takes_ty true t) [] halt_end) (λ q. shut_end.plus) in
    (ty_slice g.0, bind_at (r.ty at ts) _ _ g.1, (λ q. ap ty_slice (g.2 q)), g.3, λ c. refl)

one_of : (us : List TyD) (t : TyD) → length us ≡ 1 → (u : TyD) × (us ≡ u ∷ [])
one_of [] t e = absurd (omega (arith, e))
one_of (u ∷ []) t e = (u, refl)
one_of (u ∷ v ∷ vs) t e = absurd (omega (arith, e))

one_count : (is : Tys) → tys_count is ≡ 1 → is_one is ≡ true
one_count end_tys e = absurd (omega (arith, e))
one_count (more_tys t end_tys) e = refl
one_count (more_tys t (more_tys u is)) e = absurd (omega (arith, e))

tuple_of : (us : List TyD) (c : Bool) (is : Tys) → length us ≡ tys_count is → (is_one is ≡ true → c ≡ true) → parenthesised (us, c) ≡ ty_tuple (tys_of us)
tuple_of [] c is e h = refl
tuple_of (u ∷ []) true is e h = refl
tuple_of (u ∷ []) false is e h = let z : false ≡ true = h (one_count is (sym e)) in absurd (cc)
tuple_of (u ∷ v ∷ vs) c is e h = refl

macro_got : (r : Readers) (k : ℕ) → Reads r k → (at : Span) (p : PathD) (m ts a b rest : List Tok) → room_path p ≤ k → PathForm p → gives_path p ≡ false → IsGroup m → PathThen p ts a → SignThen 33 a b → b ≡ m ++ rest → TyGot (path_ty r at ts) (ty_macro p m) rest
unfolding path_ty
macro_got r k w at p m ts a b rest n f v i h o e =
    let st : Stops a = subst Stops (sym o.2) (stops_bang o.0 o.1 b) in
    let g = path_read_back r k w at p ts a n f h (st, (λ z. absurd (cc)), λ z. ap (sign_next 43) o.2) in
    let be : b ≡ group i.0 i.1 i.2 ∷ rest = e ∙ ap (λ z. z ++ rest) i.3 in
    let ae : a ≡ mark 33 o.0 o.1 ∷ group i.0 i.1 i.2 ∷ rest = o.2 ∙ ap (λ z. mark 33 o.0 o.1 ∷ z) be in
    let tf : choose (sign_front 33 a) tree_front None ≡ Some (group i.0 i.1 i.2, rest) = ap (λ z. choose (sign_front 33 z) tree_front None) ae ∙ ap (λ z. cond z (Some (group i.0 i.1 i.2, rest)) None) i.4 in
    let cf : cond (gives_path g.0) None (choose (sign_front 33 a) tree_front None) ≡ Some (group i.0 i.1 i.2, rest) = ap (λ z. cond z None (choose (sign_front 33 a) tree_front None)) (g.2 ∙ v) ∙ tf in
    (ty_macro g.0 (group i.0 i.1 i.2 ∷ []), bind_at (path_body r at ts) _ _ g.1 ∙ choose_at (cond (gives_path g.0) None (choose (sign_front 33 a) tree_front None)) _ _ (group i.0 i.1 i.2, rest) cf, (λ q. ap (λ z. ty_macro z (group i.0 i.1 i.2 ∷ [])) (g.3 q) ∙ ap (ty_macro p) (sym i.3)), g.4, λ z. refl)

plain_got : (r : Readers) (k : ℕ) → Reads r k → (at : Span) (l : Bool) (ss : Segments) (ts rest : List Tok) → room_segments ss ≤ k → 0 < segments_count ss → SegmentsForm 0 ss → SegmentsThen 0 l ss ts rest → Pauses true true rest → Ends (ends_segments false ss) rest → TyGot (path_ty r at ts) (ty_path no_qself (path l ss)) rest
unfolding path_ty
plain_got r k w at l ss ts rest m c f h y z =
    let g = path_got r k w at l ss ts rest m c f h (pauses_stop true rest y, (λ q. y.bang refl), z) in
    (ty_path no_qself g.0, bind_at (path_body r at ts) _ _ g.1 ∙ choose_none (cond (gives_path g.0) None (choose (sign_front 33 rest) tree_front None)) _ _ (cond_none (gives_path g.0) _ (y.bang refl)), (λ q. ap (ty_path no_qself) (g.3 q.1)), (tt, g.4), λ z. refl)

some_bounds_got : (r : Readers) (k : ℕ) → Reads r k → (at : Span) (bs : Bounds) (ts rest : List Tok) → room_bounds bs ≤ k → has_bounds bs ≡ true → BoundsForm bs → BoundsThen bs ts rest → Pauses (takes_bounds false false bs) (takes_bounds true false bs) rest → sign_next 43 rest ≡ false → BoundsGot (some_bounds r at ts) bs rest
unfolding some_bounds
some_bounds_got r k w at end_bounds ts rest m n f h c d = absurd (cc)
some_bounds_got r k w at (more_bounds b bs) ts rest m n f h c d =
    let g = w.bounds at (more_bounds b bs) ts rest m f h c (d, λ q. absurd (cc)) in
    (g.0, cond_true_at (bound_next ts) _ _ (bound_begins b ts h.0 f.0 h.1) ∙ g.1, g.2, g.3, g.4)

function_got : (r : Readers) (k : ℕ) → Reads r k → (at : Span) (is : Tys) (o : MaybeTy) (us : Toks) (c : Bool) (a b rest : List Tok) → room_tys is + room_output o ≤ k → TysForm is → OutputForm o → GroupThen Parenthesis us a b → TysThen c is (list_of us) → OutputThen o b rest → Pauses (takes_output false o) (takes_output true o) rest → Ends (ends_output o) rest → TyGot (function_body r at a) (ty_fn is o) rest
unfolding function_body
function_got r k w at is o us c a b rest m f i p h n y z =
    let g = signature_got r k w at p.0 us is c o b rest m f i h n y z in
    subst (λ v. TyGot (function_body r at v) (ty_fn is o) rest) (sym p.1)
    (ty_fn (tys_of g.0) g.1, bind_at (signature_body r (list_of us, p.0, b) at) _ _ g.2, (λ q. ap (λ v. ty_fn v g.1) (g.4 q.0) ∙ ap (ty_fn is) (g.5 q.1)), (g.6, g.7), g.3)

ty_got : (r : Readers) (k : ℕ) → Reads r k → Printed r → (at : Span) (t : TyD) (ts rest : List Tok) → room_ty t ≤ suc k → TyForm t → TyThen t ts rest → Pauses (takes_ty false t) (takes_ty true t) rest → Ends (ends_ty t) rest → TyGot (ty_body r at ts) t rest
unfolding ty_body
ty_got r k w s at (ty_array t e) ts rest m f h y z =
    let g = array_got r k w s h.3.0 t e (list_of h.0) h.1 h.2 (omega (arith, m)) f.0 f.1 h.4 h.5 h.6 in
    subst (λ v. TyGot (ty_body r at v) (ty_array t e) rest) (sym h.3.1) (g.0, bind_at (bracketed_body r h.3.0 (list_of h.0)) _ _ g.1, g.2, g.3, g.4)
ty_got r k w s at (ty_fn is o) ts rest m f h y z =
    subst (λ v. TyGot (ty_body r at v) (ty_fn is o) rest) (sym h.4.1)
    (function_got r k w at is o h.0 h.1 h.2 h.3 rest (omega (arith, m)) f.0 f.1 h.5 h.6 h.7 y z)
ty_got r k w s at (ty_group t) ts rest m f h y z = absurd f
ty_got r k w s at (ty_impl bs) ts rest m f h y z =
    let g = some_bounds_got r k w at bs h.0 rest (omega (arith, m)) f.0 f.1 h.2 y (z refl) in
    subst (λ v. TyGot (ty_body r at v) (ty_impl bs) rest) (sym h.1.1) (ty_impl (bounds_of g.0), bind_at (some_bounds r at h.0) _ _ g.1, (λ q. ap ty_impl (g.2 q)), g.3, λ c. g.4 c false)
ty_got r k w s at (ty_infer u) ts rest m f h y z = subst (λ v. TyGot (ty_body r at v) (ty_infer u) rest) (sym h) (ty_infer u, refl, (λ q. refl), tt, λ c. refl)
ty_got r k w s at (ty_macro p n) ts rest m f h y z =
    let g = macro_got r k w at p n ts h.0 h.1 rest (omega (arith, m)) f.0 f.1 f.2 h.2 h.3 h.4 in
    (g.0, ty_at_path r at ts (path_begins p ts h.0 f.0 h.2) ∙ g.1, g.2, g.3, g.4)
ty_got r k w s at (ty_never u) ts rest m f h y z = subst (λ v. TyGot (ty_body r at v) (ty_never u) rest) (sym h.1) (ty_never u, refl, (λ q. refl), tt, λ c. refl)
ty_got r k w s at (ty_paren t) ts rest m f h y z =
    let d = w.tys h.1.0 (more_tys t end_tys) false (list_of h.0) (omega (arith, m)) (f, tt) ([], h.2, refl) in
    let o = one_of d.0 t d.2 in
    subst (λ v. TyGot (ty_body r at v) (ty_paren t) rest) (sym h.1.1)
    (ty_paren o.0, bind_at (r.tys h.1.0 (list_of h.0)) _ _ d.1 ∙ ap (λ v. Ok (parenthesised (v, false), rest)) o.1, (λ q. let e : tys_of d.0 ≡ more_tys t end_tys = d.3 (q, tt) in let i : more_tys o.0 end_tys ≡ more_tys t end_tys = ap tys_of (sym o.1) ∙ e in ap ty_paren (cc (i))), (subst (λ z. TysLengths (tys_of z)) o.1 d.4).0, λ c. refl)
ty_got r k w s at (ty_path no_qself (path l ss)) ts rest m f h y z =
    let q = subst (λ v. SegmentsThen 0 l ss v rest) (sym h.1) h.2 in
    let g = plain_got r k w at l ss ts rest (omega (arith, m)) f.1.0 f.1.1 q y z in
    (g.0, ty_at_path r at ts (path_start 0 l ss ts rest f.1.0 f.1.1 q) ∙ g.1, g.2, g.3, g.4)
ty_got r k w s at (ty_path (some_qself (qself t n)) (path l ss)) ts rest m f h y z =
    let g = qualified_got r k w at t n l ss h.1.0 h.1.1 h.0 rest (omega (arith, m)) f.0 f.1.1 h.1.3 h.1.4 h.2 (pauses_stop (gives_last false ss) rest y, y.bang, z) in
    subst (λ v. TyGot (ty_body r at v) (ty_path (some_qself (qself t n)) (path l ss)) rest) (sym h.1.2.2)
    (ty_path (some_qself (qself g.0 n)) (path l g.1), bind_at (qualified_body r at h.1.0) _ _ g.2, (λ q. ap (λ v. ty_path (some_qself (qself v n)) (path l g.1)) (g.3 q.0) ∙ ap (λ v. ty_path (some_qself (qself t n)) (path l v)) (g.4 q.1)), (g.5, g.6), λ c. ap (λ v. cond c v true) g.7)
ty_got r k w s at (ty_pointer n t) ts rest m f h y z =
    subst (λ v. TyGot (ty_body r at v) (ty_pointer n t) rest) (sym h.2.2) (pointer_got r k w at n t h.0 h.1 rest (omega (arith, m)) f h.3 h.4 y z)
ty_got r k w s at (ty_reference l n t) ts rest m f h y z =
    subst (λ v. TyGot (ty_body r at v) (ty_reference l n t) rest) (sym h.3.2) (reference_got r k w at l n t h.0 h.1 h.2 rest (omega (arith, m)) f h.4 h.5 h.6 y z)
ty_got r k w s at (ty_slice t) ts rest m f h y z =
    let g = slice_got r k w h.1.0 t (list_of h.0) (omega (arith, m)) f h.2 in
    subst (λ v. TyGot (ty_body r at v) (ty_slice t) rest) (sym h.1.1) (g.0, bind_at (bracketed_body r h.1.0 (list_of h.0)) _ _ g.1, g.2, g.3, g.4)
ty_got r k w s at (ty_object bs) ts rest m f h y z =
    let g = some_bounds_got r k w at bs h.0 rest (omega (arith, m)) f.0 f.1 h.2 y (z refl) in
    subst (λ v. TyGot (ty_body r at v) (ty_object bs) rest) (sym h.1.1) (ty_object (bounds_of g.0), bind_at (some_bounds r at h.0) _ _ g.1, (λ q. ap ty_object (g.2 q)), g.3, λ c. g.4 c false)
ty_got r k w s at (ty_tuple is) ts rest m f h y z =
    let d = w.tys h.2.0 is h.1 (list_of h.0) (omega (arith, m)) f h.3 in
    subst (λ v. TyGot (ty_body r at v) (ty_tuple is) rest) (sym h.2.1)
    (ty_tuple (tys_of d.0), bind_at (r.tys h.2.0 (list_of h.0)) _ _ d.1 ∙ ap (λ v. Ok (v, rest)) (tuple_of d.0 h.1 is d.2 h.4), (λ q. ap ty_tuple (d.3 q)), d.4, λ c. refl)
ty_got r k w s at (ty_verbatim n) ts rest m f h y z = absurd f

-- each level

ty_room : (t : TyD) → 0 < room_ty t
ty_room (ty_array t e) = omega arith
ty_room (ty_fn is o) = omega arith
ty_room (ty_group t) = omega arith
ty_room (ty_impl bs) = omega arith
ty_room (ty_infer s) = omega arith
ty_room (ty_macro p m) = omega arith
ty_room (ty_never s) = omega arith
ty_room (ty_paren t) = omega arith
ty_room (ty_path q p) = omega arith
ty_room (ty_pointer m t) = omega arith
ty_room (ty_reference l m t) = omega arith
ty_room (ty_slice t) = omega arith
ty_room (ty_object bs) = omega arith
ty_room (ty_tuple is) = omega arith
ty_room (ty_verbatim m) = omega arith

tys_room : (is : Tys) → 0 < room_tys is
tys_room end_tys = omega arith
tys_room (more_tys t is) = omega arith

bounds_room : (bs : Bounds) → 0 < room_bounds bs
bounds_room end_bounds = omega arith
bounds_room (more_bounds b bs) = omega arith

segments_room : (ss : Segments) → 0 < segments_count ss → 0 < room_segments ss
segments_room end_segments h = absurd (omega (arith, h))
segments_room (more_segments s ss) h = omega arith

generics_room : (gs : Generics) → 0 < room_generics gs
generics_room end_generics = omega arith
generics_room (more_generics g gs) = omega arith

expr_path_room : (p : ExprPathD) → 0 < room_expr_path p
expr_path_room (expr_path q p) = omega arith

none_reads : Reads stuck 0
none_reads = record {
  ty = λ at t ts rest m f h y z. let n = ty_room t in absurd (omega (arith, m, n));
  tys = λ at is c ts m f h. let n = tys_room is in absurd (omega (arith, m, n));
  bounds = λ at bs ts rest m f h y z. let n = bounds_room bs in absurd (omega (arith, m, n));
  segments = λ at ss ts rest m c f h b. let n = segments_room ss c in absurd (omega (arith, m, n));
  generics = λ at gs ts rest m f h. let n = generics_room gs in absurd (omega (arith, m, n));
  expr_path = λ at p ts m f h. let n = expr_path_room p in absurd (omega (arith, m, n));
}

level_reads : (r : Readers) (k : ℕ) → Reads r k → Printed r → Reads (level r) (suc k)
level_reads r k w s = record {
  ty = ty_got r k w s;
  tys = tys_got r k w;
  bounds = bounds_got r k w;
  segments = segments_got r k w;
  generics = generics_got r k w;
  expr_path = expr_path_got r k w;
}

pub levels_read : (n : ℕ) → Reads (levels n) n
unfolding levels
levels_read zero = none_reads
levels_read (suc n) = level_reads (levels n) n (levels_read n) (levels_printed n)
