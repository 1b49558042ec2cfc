-- Fields, one after another: those that are picked are plain; a rest stands once.
use Rattle.std.proofs.Common.{◌≡◌, ℕ, suc, ◌+◌, ◌≤◌, ◌<◌, List, [], ◌∷◌, filter, drop, length, get_or, cond, Bool, true, false, not, ◌&&◌, ◌||◌, refl, sym, ap, ◌∙◌, true≢false}
use Rattle.std.specs.List.{list_all}
use Rattle.std.proofs.lemmas.List.{drop_all}
use Rattle.model_defs.specs.Model.{FieldModel, ContainerModel}
use Rattle.value_models.specs.declared.field.Field.{Field}
use Rattle.value_models.specs.FieldView.{field_view, fields_view}
use Rattle.describe_defs.specs.Plain.{is_plain_field, is_plain_rest, are_plain_rests, rests_of}
use Rattle.described_types.specs.Seen.{is_picked}
use Rattle.plain_tables.specs.Among.{no_conversions}
use Rattle.plain_tables.specs.Apart.{rests_pass}
use Rattle.plain_tables.proofs.Once.{next}

module _ (ms : List ContainerModel) where
  abbrev pub is_fine : FieldModel → Bool
  is_fine f = is_plain_field ms no_conversions f

  abbrev pub are_fine : Bool → List FieldModel → Bool
  are_fine all fs = list_all is_fine (filter (is_picked all) fs)

  -- ---- those that are picked

  picked_next : (all : Bool) (f : FieldModel) (fs : List FieldModel) (p b : Bool) → b ≡ (not p || is_fine f) → list_all is_fine (cond p (f ∷ filter (is_picked all) fs) (filter (is_picked all) fs)) ≡ (b && are_fine all fs)
  picked_next all f fs true b e = ap (λ z. z && are_fine all fs) (sym e)
  picked_next all f fs false b e = ap (λ z. z && are_fine all fs) (sym e)

  pub picked_turn : (all : Bool) (fs : List Field) (i : ℕ) (f : Field) (b w : Bool) → i < length fs → f ≡ get_or fs i f → b ≡ (not (is_picked all (field_view f)) || is_fine (field_view f)) → b ≡ true
      → w ≡ are_fine all (fields_view (drop i fs)) → w ≡ are_fine all (fields_view (drop (i + 1) fs))
  picked_turn all fs i f b w h e a k was =
      was ∙ ap (λ xs. are_fine all (fields_view xs)) (next fs i f h e) ∙ picked_next all (field_view f) (fields_view (drop (i + 1) fs)) (is_picked all (field_view f)) b a
      ∙ ap (λ z. z && are_fine all (fields_view (drop (i + 1) fs))) k

  pub picked_stop : (all : Bool) (fs : List Field) (i : ℕ) (f : Field) (b w : Bool) → i < length fs → f ≡ get_or fs i f → b ≡ (not (is_picked all (field_view f)) || is_fine (field_view f)) → b ≡ false
      → w ≡ are_fine all (fields_view (drop i fs)) → false ≡ w
  picked_stop all fs i f b w h e a k was =
      sym (was ∙ ap (λ xs. are_fine all (fields_view xs)) (next fs i f h e) ∙ picked_next all (field_view f) (fields_view (drop (i + 1) fs)) (is_picked all (field_view f)) b a
      ∙ ap (λ z. z && are_fine all (fields_view (drop (i + 1) fs))) k)

  pub picked_end : (all : Bool) (fs : List Field) (i : ℕ) (w : Bool) → length fs ≤ i → w ≡ are_fine all (fields_view (drop i fs)) → true ≡ w
  picked_end all fs i w h was = sym (was ∙ ap (λ xs. are_fine all (fields_view xs)) (drop_all i fs h))

  -- ---- rests

  abbrev pub pass : Bool → Bool → List FieldModel → Bool
  pass closed seen fs = rests_pass ms no_conversions closed seen (rests_of fs)

  pub rest_begins : (closed : Bool) (fs : List FieldModel) → are_plain_rests ms no_conversions closed fs ≡ rests_pass ms no_conversions closed false fs
  rest_begins closed [] = refl
  rest_begins closed (f ∷ []) = sym (alone (not closed && is_plain_rest ms no_conversions f))
    where
      alone : (b : Bool) → (b && true) ≡ b
      alone true = refl
      alone false = refl
  rest_begins closed (f ∷ g ∷ fs) = sym (never (not closed && is_plain_rest ms no_conversions f))
    where
      never : (b : Bool) → (b && false) ≡ false
      never true = refl
      never false = refl

  rest_next : (closed seen : Bool) (f : FieldModel) (fs : List FieldModel) (r b : Bool) → b ≡ (not r || (not seen && (not closed && is_plain_rest ms no_conversions f)))
      → rests_pass ms no_conversions closed seen (cond r (f ∷ rests_of fs) (rests_of fs)) ≡ (b && rests_pass ms no_conversions closed (seen || r) (rests_of fs))
  rest_next closed true f fs true b e = ap (λ z. z && rests_pass ms no_conversions closed true (rests_of fs)) (sym e)
  rest_next closed false f fs true b e = ap (λ z. z && rests_pass ms no_conversions closed true (rests_of fs)) (sym e)
  rest_next closed true f fs false b e = ap (λ z. z && rests_pass ms no_conversions closed true (rests_of fs)) (sym e)
  rest_next closed false f fs false b e = ap (λ z. z && rests_pass ms no_conversions closed false (rests_of fs)) (sym e)

  pub rest_turn : (closed seen now : Bool) (fs : List Field) (i : ℕ) (f : Field) (b w : Bool) → i < length fs → f ≡ get_or fs i f
      → b ≡ (not f.is_rest || (not seen && (not closed && is_plain_rest ms no_conversions (field_view f)))) → b ≡ true → now ≡ (seen || f.is_rest)
      → w ≡ pass closed seen (fields_view (drop i fs)) → w ≡ pass closed now (fields_view (drop (i + 1) fs))
  rest_turn closed seen now fs i f b w h e a k n was =
      was ∙ ap (λ xs. pass closed seen (fields_view xs)) (next fs i f h e) ∙ rest_next closed seen (field_view f) (fields_view (drop (i + 1) fs)) f.is_rest b a
      ∙ ap (λ z. z && pass closed (seen || f.is_rest) (fields_view (drop (i + 1) fs))) k ∙ ap (λ z. pass closed z (fields_view (drop (i + 1) fs))) (sym n)

  pub rest_stop : (closed seen : Bool) (fs : List Field) (i : ℕ) (f : Field) (b w : Bool) → i < length fs → f ≡ get_or fs i f
      → b ≡ (not f.is_rest || (not seen && (not closed && is_plain_rest ms no_conversions (field_view f)))) → b ≡ false → w ≡ pass closed seen (fields_view (drop i fs)) → false ≡ w
  rest_stop closed seen fs i f b w h e a k was =
      sym (was ∙ ap (λ xs. pass closed seen (fields_view xs)) (next fs i f h e) ∙ rest_next closed seen (field_view f) (fields_view (drop (i + 1) fs)) f.is_rest b a
      ∙ ap (λ z. z && pass closed (seen || f.is_rest) (fields_view (drop (i + 1) fs))) k)

  pub rest_end : (closed seen : Bool) (fs : List Field) (i : ℕ) (w : Bool) → length fs ≤ i → w ≡ pass closed seen (fields_view (drop i fs)) → true ≡ w
  rest_end closed seen fs i w h was = sym (was ∙ ap (λ xs. pass closed seen (fields_view xs)) (drop_all i fs h))
