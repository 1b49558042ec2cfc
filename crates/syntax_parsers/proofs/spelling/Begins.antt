-- What a type begins with is no other kind of generic argument.
use Rattle.std.proofs.Common.{◌≡◌, ℕ, List, ◌∷◌, true, false, Some, None, cond, refl, ap, sym, ◌∙◌, subst, codes, arith}
use Rattle.std.specs.Prelude.{nat_eq, option_map, is_some}
use Rattle.token_trees.specs.declared.token.Span.{Span}
use Rattle.token_trees.specs.declared.token.Spacing.{Spacing}
use Rattle.token_trees.specs.declared.token.Spacing.TheVariants.{Alone, Joint}
use Rattle.token_trees.specs.declared.token.Delimiter.TheVariants.{Parenthesis, Bracket}
use Rattle.token_trees.specs.Token.{Tok, word, mark, group, Toks}
use Rattle.syntax_trees.specs.Syntax.{TyD, ty_array, ty_fn, ty_group, ty_impl, ty_infer, ty_macro, ty_never, ty_paren, ty_path, ty_pointer, ty_reference, ty_slice, ty_object, ty_tuple, ty_verbatim, PathD, path, segment, ArgumentsD, no_arguments, angle, parens, bound_trait, bound_lifetime, no_qself, some_qself, qself, Bounds, end_bounds, more_bounds, Segments, end_segments, more_segments}
use Rattle.syntax_parsers.specs.Fronts.{sign_front, name_front, lifetime_front, colon_front, labelled}
use Rattle.syntax_parsers.specs.Grammar.{constant_front}
use Rattle.syntax_parsers.specs.Spelling.{ArgumentsThen, SegmentsThen, PathThen, BoundsThen, TyThen}
use Rattle.syntax_parsers.specs.SpellingForm.{has_bounds, TyForm, BoundsForm, PathForm, SegmentsForm}
use Rattle.syntax_parsers.proofs.spelling.Halts.{Unlabelled, unless_third, PathStart, at_colons, at_word, path_begins}

-- no lifetime, no constant, no name with a `=` or a `:` behind it
pub record Plain (ts : List Tok) : Type 0 where
  pub lifetime : lifetime_front ts ≡ None
  pub constant : constant_front ts ≡ None
  pub equals : labelled (sign_front 61) (name_front ts) ≡ None
  pub colon : labelled colon_front (name_front ts) ≡ None
  pub close : sign_front 62 ts ≡ None

plain_word : (x : List ℕ) (s : Span) (b : List Tok) → Unlabelled b → Plain (word x s ∷ b)
plain_word x s b u = record {
  lifetime = refl;
  constant = refl;
  equals = ap (option_map (λ us. (record { text = x; span = s }, us))) u.equals;
  colon = ap (option_map (λ us. (record { text = x; span = s }, us))) u.colon;
  close = refl;
}

plain_mark : (c : ℕ) (j : Spacing) (s : Span) (b : List Tok) → nat_eq 39 c ≡ false → nat_eq 45 c ≡ false → nat_eq 62 c ≡ false → Plain (mark c j s ∷ b)
plain_mark c j s b q m n = record { lifetime = rw q refl; constant = rw m refl; equals = refl; colon = refl; close = rw n refl }

plain_group : (d : Toks) (s : Span) (b : List Tok) → Plain (group Parenthesis d s ∷ b) × Plain (group Bracket d s ∷ b)
plain_group d s b = (record { lifetime = refl; constant = refl; equals = refl; colon = refl; close = refl }, record { lifetime = refl; constant = refl; equals = refl; colon = refl; close = refl })

-- what stands behind a word of a path
behind_segments : (ss : Segments) (ts rest : List Tok) → SegmentsForm 0 ss → SegmentsThen 0 true ss ts rest → Unlabelled rest → Unlabelled ts
behind_segments end_segments ts rest f h u = subst Unlabelled (sym h) u
behind_segments (more_segments (segment x a) ss) ts rest f h u =
    let e : ts ≡ mark 58 Joint h.3.0 ∷ mark 58 h.3.1 h.3.2 ∷ word x.text x.span ∷ h.4.0 = h.3.3 ∙ ap (λ z. mark 58 Joint h.3.0 ∷ mark 58 h.3.1 h.3.2 ∷ z) h.4.1 in
    subst Unlabelled (sym e) (record { equals = refl; colon = refl })

behind_arguments : (a : ArgumentsD) (ts rest : List Tok) → ArgumentsThen a ts rest → Unlabelled rest → Unlabelled ts
behind_arguments no_arguments ts rest h u = subst Unlabelled (sym h) u
behind_arguments (angle true gs) ts rest h u =
    let e : ts ≡ mark 58 Joint h.2.0 ∷ mark 58 h.2.1 h.2.2 ∷ mark 60 h.3.0 h.3.1 ∷ h.1 = h.2.3 ∙ ap (λ z. mark 58 Joint h.2.0 ∷ mark 58 h.2.1 h.2.2 ∷ z) h.3.2 in
    subst Unlabelled (sym e) (record { equals = refl; colon = refl })
behind_arguments (angle false gs) ts rest h u = subst Unlabelled (sym (h.2 ∙ h.3.2)) (record { equals = refl; colon = refl })
behind_arguments (parens is o) ts rest h u = subst Unlabelled (sym h.3.1) (record { equals = refl; colon = refl })

plain_path : (p : PathD) (ts rest : List Tok) → PathForm p → PathThen p ts rest → Unlabelled rest → Plain ts
plain_path (path l end_segments) ts rest f h u = absurd (omega (arith, f.0))
plain_path (path true (more_segments s ss)) ts rest f h u = subst Plain (sym h.3.3) (plain_mark 58 Joint h.3.0 (mark 58 h.3.1 h.3.2 ∷ h.0) refl refl refl)
plain_path (path false (more_segments (segment x a) ss)) ts rest f h u =
    let b = behind_segments ss h.2 rest f.1.2 h.6 u in
    let c = behind_arguments a h.4.0 h.1 h.4.2 (subst Unlabelled (sym h.5) b) in
    subst Plain (sym (h.3 ∙ h.4.1)) (plain_word x.text x.span h.4.0 c)

behind_start : (ts : List Tok) → PathStart ts → Unlabelled ts
behind_start ts (at_colons s u v j x b e) = subst Unlabelled (sym e) (record { equals = refl; colon = refl })
behind_start ts (at_word s x b h e) = subst Unlabelled (sym e) (record { equals = refl; colon = refl })

behind_keyword : (bs : Bounds) (ts rest : List Tok) → has_bounds bs ≡ true → BoundsForm bs → BoundsThen bs ts rest → Unlabelled ts
behind_keyword end_bounds ts rest n f h = absurd (cc)
behind_keyword (more_bounds (bound_trait p) bs) ts rest n f h = behind_start ts (path_begins p ts h.0 f.0 h.1)
behind_keyword (more_bounds (bound_lifetime l) bs) ts rest n f h = subst Unlabelled (sym h.1) (record { equals = refl; colon = refl })

pub plain_ty : (t : TyD) (ts rest : List Tok) → TyForm t → TyThen t ts rest → Unlabelled rest → Plain ts
plain_ty (ty_array t e) ts rest f h u = subst Plain (sym h.3.1) (plain_group h.0 h.3.0 rest).1
plain_ty (ty_fn is o) ts rest f h u = subst Plain (sym h.4.1) (plain_word (codes "fn") h.4.0 h.2 (subst Unlabelled (sym h.5.1) (record { equals = refl; colon = refl })))
plain_ty (ty_group t) ts rest f h u = absurd f
plain_ty (ty_impl bs) ts rest f h u = subst Plain (sym h.1.1) (plain_word (codes "impl") h.1.0 h.0 (behind_keyword bs h.0 rest f.0 f.1 h.2))
plain_ty (ty_infer s) ts rest f h u = subst Plain (sym h) (plain_word (codes "_") s rest u)
plain_ty (ty_macro p m) ts rest f h u = plain_path p ts h.0 f.0 h.2 (subst Unlabelled (sym h.3.2) (record { equals = refl; colon = refl }))
plain_ty (ty_never s) ts rest f h u = subst Plain (sym h.1) (plain_mark 33 h.0 s rest refl refl refl)
plain_ty (ty_paren t) ts rest f h u = subst Plain (sym h.1.1) (plain_group h.0 h.1.0 rest).0
plain_ty (ty_path no_qself (path l ss)) ts rest f h u = subst Plain (sym h.1) (plain_path (path l ss) h.0 rest f.1 h.2 u)
plain_ty (ty_path (some_qself (qself t n)) p) ts rest f h u = subst Plain (sym h.1.2.2) (plain_mark 60 h.1.2.0 h.1.2.1 h.1.0 refl refl refl)
plain_ty (ty_pointer m t) ts rest f h u = subst Plain (sym h.2.2) (plain_mark 42 h.2.0 h.2.1 h.0 refl refl refl)
plain_ty (ty_reference l m t) ts rest f h u = subst Plain (sym h.3.2) (plain_mark 38 h.3.0 h.3.1 h.0 refl refl refl)
plain_ty (ty_slice t) ts rest f h u = subst Plain (sym h.1.1) (plain_group h.0 h.1.0 rest).1
plain_ty (ty_object bs) ts rest f h u = subst Plain (sym h.1.1) (plain_word (codes "dyn") h.1.0 h.0 (behind_keyword bs h.0 rest f.0 f.1 h.2))
plain_ty (ty_tuple is) ts rest f h u = subst Plain (sym h.2.1) (plain_group h.0 h.2.0 rest).0
plain_ty (ty_verbatim m) ts rest f h u = absurd f

-- a `:` before bounds is no `::`
colon_sign : (j : Spacing) (s : Span) (ts : List Tok) → sign_front 58 ts ≡ None → colon_front (mark 58 j s ∷ ts) ≡ Some ts
colon_sign Joint s ts e = ap (λ o. cond (is_some (unless_third o)) None (Some ts)) e
colon_sign Alone s ts e = refl

colon_start : (j : Spacing) (s : Span) (ts : List Tok) → PathStart ts → colon_front (mark 58 j s ∷ ts) ≡ Some ts
colon_start Joint s ts (at_colons a u v k x b e) = ap (λ z. colon_front (mark 58 Joint s ∷ z)) e ∙ ap Some (sym e)
colon_start Alone s ts (at_colons a u v k x b e) = refl
colon_start j s ts (at_word a x b h e) = colon_sign j s ts (ap (sign_front 58) e)

pub colon_bounds : (bs : Bounds) (j : Spacing) (s : Span) (ts rest : List Tok) → BoundsForm bs → BoundsThen bs ts rest → sign_front 58 rest ≡ None → colon_front (mark 58 j s ∷ ts) ≡ Some ts
colon_bounds end_bounds j s ts rest f h n = colon_sign j s ts (ap (sign_front 58) h ∙ n)
colon_bounds (more_bounds (bound_trait p) bs) j s ts rest f h n = colon_start j s ts (path_begins p ts h.0 f.0 h.1)
colon_bounds (more_bounds (bound_lifetime l) bs) j s ts rest f h n = colon_sign j s ts (ap (sign_front 58) h.1)
