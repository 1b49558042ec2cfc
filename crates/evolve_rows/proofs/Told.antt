-- What is told of fields, one new field after another.
use Rattle.std.proofs.Common.{Bor, ◌≡◌, ℕ, suc, ◌+◌, ◌<◌, ◌≤◌, List, [], ◌∷◌, ◌++◌, drop, length, get_or, Some, sym, ap, ◌∙◌, append_assoc, append-nil, arith}
use Rattle.std.proofs.lemmas.List.{drop_all, map-append}
use Rattle.schema_defs.proofs.Turns.{mapped_drop}
use Rattle.model_defs.specs.Model.{FieldModel}
use Rattle.value_models.specs.declared.field.Field.{Field}
use Rattle.value_models.specs.FieldView.{field_view}
use Rattle.evolve_defs.specs.Steps.{own_fields, other_fields, lost_fields}
use Rattle.evolve_ways.specs.Ways.{Told, place_mark, place_marks, field_marks, found_marks}
use Rattle.evolve_rows.specs.Found.{refs_view}
use Rattle.evolve_rows.specs.MarksView.{step_view, steps_view}
use Rattle.evolve_rows.specs.declared.mark.Mark.TheVariants.{Place}
use Rattle.evolve_rows.specs.declared.mark.Step.{Step}
use Rattle.evolve_rows.specs.declared.mark.Step.TheVariants.{To}

module _ (xs : List (Bor Field)) (i : ℕ) where
  module _ (x : Bor Field) (fs left : List FieldModel) (h : i < length xs) (at : x ≡ get_or xs i x) (others : left ≡ other_fields (field_view x.now) fs) where
    next : refs_view (drop i xs) ≡ field_view x.now ∷ refs_view (drop (i + 1) xs)
    next = mapped_drop (λ (f : Bor Field). field_view f.now) xs i x h at

    pub found_turn : (own : List FieldModel) (old new w : List Told) → own ≡ own_fields (field_view x.now) fs → new ≡ old ++ field_marks own → old ++ found_marks (refs_view (drop i xs)) fs ≡ w
        → new ++ found_marks (refs_view (drop (i + 1) xs)) left ≡ w
    found_turn own old new w e n was =
        let g = field_view x.now in
        let later = refs_view (drop (i + 1) xs) in
        (λ j. n j ++ found_marks later (others j))
        ∙ ap (λ ys. (old ++ field_marks ys) ++ found_marks later (other_fields g fs)) e
        ∙ append_assoc old (field_marks (own_fields g fs)) (found_marks later (other_fields g fs))
        ∙ ap (λ ys. old ++ found_marks ys fs) (sym next)
        ∙ was

    pub lost_turn : (w : List FieldModel) → lost_fields (refs_view (drop i xs)) fs ≡ w → lost_fields (refs_view (drop (i + 1) xs)) left ≡ w
    lost_turn w was = ap (lost_fields (refs_view (drop (i + 1) xs))) others ∙ ap (λ ys. lost_fields ys fs) (sym next) ∙ was

  pub found_end : (fs : List FieldModel) (old w : List Told) → length xs ≤ i → old ++ found_marks (refs_view (drop i xs)) fs ≡ w → old ≡ w
  found_end fs old w h was = sym (append-nil old) ∙ ap (λ ys. old ++ found_marks (refs_view ys) fs) (sym (drop_all i xs h)) ∙ was

  pub lost_end : (fs w : List FieldModel) → length xs ≤ i → lost_fields (refs_view (drop i xs)) fs ≡ w → fs ≡ w
  lost_end fs w h was = ap (λ ys. lost_fields (refs_view ys) fs) (sym (drop_all i xs h)) ∙ was

-- one place more
pub place_turn : (i : ℕ) (old new : List Step) → new ≡ old ++ To (Place i) ∷ [] → steps_view old ≡ place_marks i → steps_view new ≡ place_marks (i + 1)
place_turn i old new n was =
    ap steps_view n ∙ map-append step_view old (To (Place i) ∷ []) ∙ ap (λ ms. ms ++ Some (place_mark i) ∷ []) was ∙ ap place_marks (let k : suc i ≡ i + 1 = omega arith in k)
