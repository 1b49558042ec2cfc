-- The members of an object, by the fields that take them.
use Rattle.std.proofs.Common.{◌≡◌, ℕ, zero, suc, ◌+◌, List, [], ◌∷◌, filter, Bool, true, false, cond, not, Option, Some, None, is_some, refl, sym, ap, ◌∙◌, arith}
use Rattle.json_value.specs.Value.{Value}
use Rattle.model_defs.specs.Types.{TypeModel, boolean_type, integer_type, text_type, native_type, any_type, unit_type, option_type, boxed_type, vec_type, set_type, map_type, tuple_type, array_type, item_type, outside_type}
use Rattle.model_defs.specs.Model.{FieldModel, HelperModel, some_helper, no_helper, whole_helper, DefaultModel, no_default, own_default, stated_default}
use Rattle.model_defs.specs.Layer.{MemberPart, belongs, own_members, other_members, unnamed_members, present_type, helped_type, has_no_helper}
use Rattle.model_defs.specs.Reads.{allowed}
use Rattle.name_tables.specs.Names.{Names, place_of}
use Rattle.value_models.specs.Names.{is_place, field_names, own_at, members_at as members_placed, members_without_place}
use Rattle.value_models.proofs.Found.{own_are_found, unnamed_are_found}
use Rattle.typed_defs.specs.Typed.{Typed}
use Rattle.reading_defs.specs.Reading.{Read, taken, stopped, Reader, under, helped, followed, field_read, fields_read, after_unnamed, members_read, rest_read, absent, default_given}
use Rattle.value_parts.specs.At.{Setting, Entry, default_of, entry_part, entry_parts, type_at, members_at, rest_at}
use Rattle.value_parts.specs.Slots.{first_two, entries_at, entries_without_place, present_at, missing_at, slot_at, field_at, fields_from, first_if}
use Rattle.value_reading.specs.Steps.{helped_at, inner_at}
use Rattle.value_reading.proofs.Levels.{as_type_is}

module _ (s : Setting) where
  -- ---- the same members, as pairs and as parts

  kept : (p : Bool) (e : Entry) (es : List Entry) (ms : List (MemberPart Reader)) → ms ≡ entry_parts s es → cond p (entry_part s e ∷ ms) ms ≡ entry_parts s (cond p (e ∷ es) es)
  kept true e es ms h = ap (λ ps. entry_part s e ∷ ps) h
  kept false e es ms h = h

  placed_is : (i : ℕ) (names : Names) (es : List Entry) → members_placed i names (entry_parts s es) ≡ entry_parts s (entries_at i names es)
  placed_is i names [] = refl
  placed_is i names (e ∷ es) = kept (is_place i (place_of e.0 names)) e (entries_at i names es) (members_placed i names (entry_parts s es)) (placed_is i names es)

  without_is : (names : Names) (es : List Entry) → members_without_place names (entry_parts s es) ≡ entry_parts s (entries_without_place names es)
  without_is names [] = refl
  without_is names (e ∷ es) = kept (not (is_some (place_of e.0 names))) e (entries_without_place names es) (members_without_place names (entry_parts s es)) (without_is names es)

  -- ---- one field

  present_is : (f : FieldModel) (e : Entry) → present_at s f e ≡ field_read (default_of s) (absent s.models) f (entry_part s e ∷ [])
  present_is f e = ap (λ r. under e.0 (helped f.helper r)) (sym (as_type_is s (present_type f) e.1))

  slot_is : (f : FieldModel) (es : List Entry) → slot_at s f es ≡ field_read (default_of s) (absent s.models) f (entry_parts s es)
  slot_is f [] = refl
  slot_is f (e ∷ []) = present_is f e
  slot_is f (d ∷ e ∷ es) = refl

  pub of_two : (f : FieldModel) (es : List Entry) → slot_at s f (first_two es) ≡ slot_at s f es
  of_two f [] = refl
  of_two f (e ∷ []) = refl
  of_two f (d ∷ e ∷ es) = refl

  -- ---- the fields in order

  module _ (own : ℕ → List Entry) (unnamed : List Entry) where
    by_rest : (r : Bool) (f : FieldModel) (i : ℕ) (ms : List (MemberPart Reader)) (rest : Read (List Typed)) (fs : List FieldModel)
        → cond r [] (own_members f ms) ≡ cond r [] (entry_parts s (own i))
        → fields_read (default_of s) (absent s.models) fs (entry_parts s unnamed) (cond r ms (other_members f ms)) ≡ rest
        → cond r (followed (rest_read f.field_type (entry_parts s unnamed)) (fields_read (default_of s) (absent s.models) fs (entry_parts s unnamed) ms))
        (followed (field_read (default_of s) (absent s.models) f (own_members f ms)) (fields_read (default_of s) (absent s.models) fs (entry_parts s unnamed) (other_members f ms)))
        ≡ followed (cond r (rest_at s f.field_type unnamed) (slot_at s f (own i))) rest
    by_rest true f i ms rest fs h g = ap (followed (rest_read f.field_type (entry_parts s unnamed))) g
    by_rest false f i ms rest fs h g = λ j. followed ((ap (field_read (default_of s) (absent s.models) f) h ∙ sym (slot_is f (own i))) j) (g j)

    first_own : (r : Bool) (f : FieldModel) (ms : List (MemberPart Reader)) (qs : List (MemberPart Reader)) → cond r [] (own_members f ms) ≡ qs → cond r [] (own_members f ms) ≡ cond r [] qs
    first_own true f ms qs h = refl
    first_own false f ms qs h = h

    in_order : (i : ℕ) (fs : List FieldModel) (ms : List (MemberPart Reader)) → ((j : ℕ) → own_at j fs ms ≡ entry_parts s (own (i + j)))
        → fields_read (default_of s) (absent s.models) fs (entry_parts s unnamed) ms ≡ fields_from s own unnamed i fs
    in_order i [] ms h = refl
    in_order i (f ∷ fs) ms h =
        let first : i + 0 ≡ i = omega arith in
        by_rest f.is_rest f i ms (fields_from s own unnamed (suc i) fs) fs
        (first_own f.is_rest f ms (entry_parts s (own i)) (h 0 ∙ ap (λ k. entry_parts s (own k)) first))
        (in_order (suc i) fs (cond f.is_rest ms (other_members f ms)) (λ j. h (suc j) ∙ ap (λ k. entry_parts s (own k)) (next j)))
      where
        next : (j : ℕ) → i + suc j ≡ suc i + j
        next j = omega arith

  -- ---- the members, where unknown ones may be refused

  abbrev unless_unknown : Option Entry → Read (List Typed) → Read (List Typed)
  unless_unknown None r = r
  unless_unknown (Some e) r = stopped (e.0 ∷ [])

  first_unknown : (closed : Bool) (fs : List FieldModel) (us : List Entry) (ms : List (MemberPart Reader))
      → after_unnamed (default_of s) (absent s.models) closed fs (entry_parts s us) ms ≡ unless_unknown (first_if closed us) (fields_read (default_of s) (absent s.models) fs (entry_parts s us) ms)
  first_unknown true fs [] ms = refl
  first_unknown true fs (u ∷ us) ms = refl
  first_unknown false fs [] ms = refl
  first_unknown false fs (u ∷ us) ms = refl

  abbrev all_fields : List FieldModel → List Entry → Read (List Typed)
  all_fields fs es = fields_from s (λ i. entries_at i (field_names 0 fs) es) (entries_without_place (field_names 0 fs) es) 0 fs

  from_first : (j : ℕ) → j ≡ 0 + j
  from_first j = omega arith

  members_are : (closed : Bool) (fs : List FieldModel) (es : List Entry)
      → members_at s closed fs es ≡ unless_unknown (first_if closed (entries_without_place (field_names 0 fs) es)) (all_fields fs es)
  members_are closed fs es =
      ap (λ us. after_unnamed (default_of s) (absent s.models) closed fs us (entry_parts s es)) (unnamed_are_found fs (entry_parts s es) ∙ without_is (field_names 0 fs) es)
      ∙ first_unknown closed fs (entries_without_place (field_names 0 fs) es) (entry_parts s es)
      ∙ ap (unless_unknown (first_if closed (entries_without_place (field_names 0 fs) es)))
      (in_order (λ i. entries_at i (field_names 0 fs) es) (entries_without_place (field_names 0 fs) es) 0 fs (entry_parts s es) (λ j. own_are_found fs (entry_parts s es) j ∙ placed_is j (field_names 0 fs) es ∙ ap (λ k. entry_parts s (entries_at k (field_names 0 fs) es)) (from_first j)))

  pub unknown_there : (closed : Bool) (fs gs : List FieldModel) (es ds : List Entry) (e : Entry) (o : Read (List Typed)) → gs ≡ fs → ds ≡ es
      → Some e ≡ first_if closed (entries_without_place (field_names 0 gs) ds) → o ≡ stopped (e.0 ∷ []) → o ≡ members_at s closed fs es
  unknown_there closed fs gs es ds e o f d h w =
      w ∙ ap (λ q. unless_unknown q (all_fields gs ds)) h ∙ sym (members_are closed gs ds) ∙ (λ i. members_at s closed (f i) (d i))

  pub none_unknown : (closed : Bool) (fs gs : List FieldModel) (es ds : List Entry) (r : Read (List Typed)) → gs ≡ fs → ds ≡ es → None ≡ first_if closed (entries_without_place (field_names 0 gs) ds)
      → r ≡ all_fields gs ds → r ≡ members_at s closed fs es
  none_unknown closed fs gs es ds r f d h g =
      g ∙ ap (λ o. unless_unknown o (all_fields gs ds)) h ∙ sym (members_are closed gs ds) ∙ (λ i. members_at s closed (f i) (d i))

  -- ---- as the helper says

  pub helped_is : (f : FieldModel) (e : Entry) (r o : Read Typed) → r ≡ helped f.helper (type_at s (allowed s.models) (helped_type f.helper f.field_type) e.1) → o ≡ under e.0 r → o ≡ present_at s f e
  helped_is f e r o h g = g ∙ ap (under e.0) h

  pub helped_here : (f : FieldModel) (e : Entry) (h : HelperModel) (t : TypeModel) (r o : Read Typed) → h ≡ f.helper → t ≡ f.field_type → r ≡ helped_at s h t e.1 → o ≡ under e.0 r → o ≡ present_at s f e
  helped_here f e h t r o same is w g = g ∙ ap (under e.0) (w ∙ (λ i. helped_at s (same i) (is i) e.1))

  -- what the option holds
  inner_is : (t : TypeModel) (v : Value) → inner_at s t v ≡ helped_at s some_helper t v
  inner_is (option_type t) v = refl
  inner_is boolean_type v = refl
  inner_is (integer_type g) v = refl
  inner_is text_type v = refl
  inner_is (native_type f) v = refl
  inner_is any_type v = refl
  inner_is unit_type v = refl
  inner_is (boxed_type t) v = refl
  inner_is (vec_type t) v = refl
  inner_is (set_type t) v = refl
  inner_is (map_type k t) v = refl
  inner_is (tuple_type ts) v = refl
  inner_is (array_type t n) v = refl
  inner_is (item_type n) v = refl
  inner_is outside_type v = refl

  pub inner_here : (t : TypeModel) (v : Value) (o : Read Typed) → o ≡ inner_at s t v → o ≡ helped_at s some_helper t v
  inner_here t v o h = h ∙ inner_is t v

  -- ---- one field, by its slot

  module _ (f : FieldModel) (un own : List Entry) where
    by_rest_test : (b : Bool) → f.is_rest ≡ b → cond b (rest_at s f.field_type un) (slot_at s f own) ≡ field_at s f un own
    by_rest_test b h = ap (λ c. cond c (rest_at s f.field_type un) (slot_at s f own)) (sym h)

    pub rest_field : (t : TypeModel) (ds : List Entry) (o : Read Typed) → f.is_rest ≡ true → t ≡ f.field_type → ds ≡ un → o ≡ rest_at s t ds → o ≡ field_at s f un own
    rest_field t ds o h e l w = w ∙ (λ i. rest_at s (e i) (l i)) ∙ by_rest_test true h

    by_slot : (two : List Entry) (o : Read Typed) → f.is_rest ≡ false → two ≡ first_two own → o ≡ slot_at s f two → o ≡ field_at s f un own
    by_slot two o h e w = w ∙ ap (slot_at s f) e ∙ of_two f own ∙ by_rest_test false h

    pub empty_field : (o : Read Typed) → f.is_rest ≡ false → [] ≡ first_two own → o ≡ missing_at s f → o ≡ field_at s f un own
    empty_field o h e w = by_slot [] o h e w

    pub one_field : (d : Entry) (o : Read Typed) → f.is_rest ≡ false → d ∷ [] ≡ first_two own → o ≡ present_at s f d → o ≡ field_at s f un own
    one_field d o h e w = by_slot (d ∷ []) o h e w

    pub two_field : (d e : Entry) (o : Read Typed) → f.is_rest ≡ false → d ∷ e ∷ [] ≡ first_two own → o ≡ stopped (e.0 ∷ []) → o ≡ field_at s f un own
    two_field d e o h g w = by_slot (d ∷ e ∷ []) o h g w
