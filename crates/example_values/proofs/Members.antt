-- The members of fields, from the last to the first.
use Rattle.std.proofs.Common.{◌≡◌, ℕ, ◌+◌, ◌<◌, List, [], ◌∷◌, ◌++◌, drop, length, get_or, cond, Bool, true, false, ◌&&◌, ◌||◌, Option, Some, is_some, refl, sym, ap, subst, ◌∙◌, arith}
use Rattle.std.proofs.lemmas.List.{drop_all}
use Rattle.json_value.specs.Value.{Value, Members, no_members}
use Rattle.model_defs.specs.Types.{TypeModel}
use Rattle.model_defs.specs.Model.{FieldModel, ContainerModel, ConversionsD}
use Rattle.model_defs.specs.Layer.{one_type, may_be_missing, present_type}
use Rattle.model_defs.specs.Reads.{leads_to_option}
use Rattle.example_defs.specs.Built.{found_name, field_built, fields_built}
use Rattle.example_defs.specs.Example.{put_named, members_made}
use Rattle.example_laws.proofs.Small.{left, right}
use Rattle.example_parts.specs.Names.{own_names, names_of_fields, names_before, name_found}
use Rattle.value_models.specs.declared.field.Field.{Field}
use Rattle.value_models.specs.FieldView.{field_view, fields_view}
use Rattle.example_values.proofs.Backwards.{from_here, next_before, found_here}
use Rattle.example_values.specs.Made.{IsMade, AreMembers, IsMemberPut}
use Rattle.example_values.proofs.Firsts.{B, M}

module _ (ms : List ContainerModel) (cs : ConversionsD) where
  abbrev lead : TypeModel → Bool
  lead t = leads_to_option ms t

  abbrev built_from : ℕ → List (List ℕ) → List FieldModel → Bool
  built_from n earlier fs = fields_built lead (λ c. B ms cs n c) earlier fs

  abbrev made_from : ℕ → List (List ℕ) → List FieldModel → Members
  made_from n earlier fs = members_made lead (λ c. B ms cs n c) (λ c. M ms cs n c) earlier fs

  -- the members of the fields from a place on
  unfoldable pub From : List FieldModel → ℕ → List Field → Members → Type 0
  From fs i xs es = (n : ℕ) → built_from n (names_before [] (names_of_fields fs) i) (fields_view xs) ≡ true → es ≡ made_from n (names_before [] (names_of_fields fs) i) (fields_view xs)

  pub members_begin : (xs : List Field) (fs : List FieldModel) → From fs (length xs) (drop (length xs) xs) no_members
  unfolding From
  members_begin xs fs n h = sym (ap (λ ys. made_from n (names_before [] (names_of_fields fs) (length xs)) (fields_view ys)) (drop_all (length xs) xs (omega arith)))

  module _ (n : ℕ) (f : FieldModel) (names : List (List ℕ)) (rest : List FieldModel) (old : Members) where
    abbrev present : Bool
    present = B ms cs n (one_type (present_type f))

    abbrev value : Value
    value = M ms cs n (one_type (present_type f))

    -- of a field and of those behind it
    by_rest : (b : Bool) (found : Option (List ℕ)) → found ≡ found_name names (cond b [] f.deserialize_names)
        → cond b (built_from n names rest) (field_built lead (λ c. B ms cs n c) names f && built_from n (f.deserialize_names ++ names) rest) ≡ true
        → (built_from n (cond b [] f.deserialize_names ++ names) rest ≡ true → old ≡ made_from n (cond b [] f.deserialize_names ++ names) rest)
        → ((b || (may_be_missing lead f || (is_some found && present))) ≡ true)
        × (cond b old (cond (may_be_missing lead f) old (put_named found value old))
        ≡ cond b (made_from n names rest) (cond (may_be_missing lead f) (made_from n (f.deserialize_names ++ names) rest) (put_named (found_name names f.deserialize_names) value (made_from n (f.deserialize_names ++ names) rest))))
    by_rest true found e h was = (refl, was h)
    by_rest false found e h was =
        let own = left (field_built lead (λ c. B ms cs n c) names f) (built_from n (f.deserialize_names ++ names) rest) h in
        let behind = right (field_built lead (λ c. B ms cs n c) names f) (built_from n (f.deserialize_names ++ names) rest) h in (
          ap (λ o. may_be_missing lead f || (is_some o && present)) e ∙ own,
          λ z. cond (may_be_missing lead f) (was behind z) (put_named (e z) value (was behind z)),
        )

  pub members_turn : (xs : List Field) (fs : List FieldModel) (i j : ℕ) (x : Field) (old new : Members) → fields_view xs ≡ fs → j + 1 ≡ i → j < length xs → x ≡ get_or xs j x
      → IsMemberPut ms cs fs j (field_view x) old new → From fs i (drop i xs) old → From fs j (drop j xs) new
  unfolding From IsMemberPut
  members_turn xs fs i j x old new w s h e put was n b =
      let f = field_view x in
      let names = names_before [] (names_of_fields fs) j in
      let rest = fields_view (drop i xs) in
      let here : drop j xs ≡ x ∷ drop i xs = from_here xs i j x s h e in
      let step = by_rest n f names rest old x.is_rest (name_found (names_of_fields fs) j) (found_here field_view own_names xs fs w i j x s h e)
      (ap (λ ys. built_from n names (fields_view ys)) (sym here) ∙ b)
      (subst (λ z. built_from n z rest ≡ true → old ≡ made_from n z rest) (next_before field_view own_names xs fs w i j x s h e) (was n)) in
      put n step.0 ∙ step.1 ∙ ap (λ ys. made_from n names (fields_view ys)) (sym here)

  pub members_end : (xs : List Field) (fs : List FieldModel) (i : ℕ) (es : Members) → fields_view xs ≡ fs → i ≡ 0 → From fs i (drop i xs) es → AreMembers ms cs fs es
  unfolding From AreMembers
  members_end xs fs i es w z was =
      subst (λ ys. (n : ℕ) → built_from n [] ys ≡ true → es ≡ made_from n [] ys) w
      (subst (λ k. (n : ℕ) → built_from n (names_before [] (names_of_fields fs) k) (fields_view (drop k xs)) ≡ true → es ≡ made_from n (names_before [] (names_of_fields fs) k) (fields_view (drop k xs))) z was)

  -- ---- one field

  pub rest_kept : (fs : List FieldModel) (i : ℕ) (f : FieldModel) (old new : Members) → f.is_rest ≡ true → new ≡ old → IsMemberPut ms cs fs i f old new
  unfolding IsMemberPut
  rest_kept fs i f old new r e n h =
      e ∙ ap (λ b. cond b old (cond (may_be_missing lead f) old (put_named (name_found (names_of_fields fs) i) (M ms cs n (one_type (present_type f))) old))) (sym r)

  pub missing_kept : (fs : List FieldModel) (i : ℕ) (f : FieldModel) (old new : Members) (b : Bool) → f.is_rest ≡ false → b ≡ may_be_missing lead f → b ≡ true → new ≡ old → IsMemberPut ms cs fs i f old new
  unfolding IsMemberPut
  missing_kept fs i f old new b r m t e n h =
      e
      ∙ ap (λ c. cond c old (put_named (name_found (names_of_fields fs) i) (M ms cs n (one_type (present_type f))) old)) (sym t ∙ m)
      ∙ ap (λ c. cond c old (cond (may_be_missing lead f) old (put_named (name_found (names_of_fields fs) i) (M ms cs n (one_type (present_type f))) old))) (sym r)

  pub member_put : (fs : List FieldModel) (i : ℕ) (f : FieldModel) (old new : Members) (b : Bool) (m : List ℕ) (t : TypeModel) (v : Value) → f.is_rest ≡ false → b ≡ may_be_missing lead f → b ≡ false
      → Some m ≡ name_found (names_of_fields fs) i → t ≡ present_type f → IsMade ms cs (one_type t) v → new ≡ put_named (Some m) v old → IsMemberPut ms cs fs i f old new
  unfolding IsMemberPut IsMade
  member_put fs i f old new b m t v r k q found p made e n h =
      let miss : may_be_missing lead f ≡ false = sym k ∙ q in
      let ready : B ms cs n (one_type (present_type f)) ≡ true =
      right (is_some (name_found (names_of_fields fs) i)) (B ms cs n (one_type (present_type f)))
      (ap (λ c. c || (is_some (name_found (names_of_fields fs) i) && B ms cs n (one_type (present_type f)))) (sym miss)
      ∙ ap (λ c. c || (may_be_missing lead f || (is_some (name_found (names_of_fields fs) i) && B ms cs n (one_type (present_type f))))) (sym r) ∙ h) in
      let is : v ≡ M ms cs n (one_type (present_type f)) = subst (λ u. B ms cs n (one_type u) ≡ true → v ≡ M ms cs n (one_type u)) p (made n) ready in
      e
      ∙ (λ z. put_named (found z) (is z) old)
      ∙ ap (λ c. cond c old (put_named (name_found (names_of_fields fs) i) (M ms cs n (one_type (present_type f))) old)) (sym miss)
      ∙ ap (λ c. cond c old (cond (may_be_missing lead f) old (put_named (name_found (names_of_fields fs) i) (M ms cs n (one_type (present_type f))) old))) (sym r)
