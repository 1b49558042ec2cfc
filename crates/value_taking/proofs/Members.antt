-- The members of an object, by the fields that take them.
use Rattle.std.proofs.Common.{◌≡◌, ℕ, suc, ◌+◌, List, [], ◌∷◌, Bool, true, false, cond, not, ◌&&◌, ◌||◌, Option, Some, None, is_some, refl, sym, ap, ◌∙◌, arith}
use Rattle.json_value.specs.Value.{Value}
use Rattle.model_defs.specs.Types.{TypeModel, boolean_type, integer_type, text_type, native_type, any_type, unit_type, option_type, boxed_type, vec_type, set_type, map_type, tuple_type, array_type, item_type, outside_type}
use Rattle.model_defs.specs.Model.{FieldModel}
use Rattle.model_defs.specs.Layer.{MemberPart, Judge, own_members, other_members, is_none, present_type, field_takes, fields_take, rests_take, map_takes}
use Rattle.model_defs.specs.Reads.{leads_to_option}
use Rattle.name_tables.specs.Names.{Names, place_of}
use Rattle.value_models.specs.Names.{is_place, field_names, own_at, members_at as members_placed, members_without_place}
use Rattle.value_models.proofs.Found.{own_are_found, unnamed_are_found}
use Rattle.value_parts.specs.At.{Entry}
use Rattle.value_parts.specs.Slots.{first_two, entries_at, entries_without_place, first_if}
use Rattle.value_taking.specs.At.{Tables, entry_part, entry_parts, part_at, members_at, rest_at, slot_at, field_at, fields_from}
use Rattle.value_taking.specs.Given.{or_outside}
use Rattle.value_taking.proofs.Levels.{as_type_is, pairs_are}

module _ (s : Tables) where
  abbrev leads : TypeModel → Bool
  leads = leads_to_option s.models

  -- ---- the same members, as pairs and as parts

  kept : (p : Bool) (e : Entry) (es : List Entry) (ms : List (MemberPart Judge)) → ms ≡ entry_parts s es → cond p (entry_part s e ∷ ms) ms ≡ entry_parts s (cond p (e ∷ es) es)
  kept true e es ms h = ap (λ ps. entry_part s e ∷ ps) h
  kept false e es ms h = h

  placed_is : (i : ℕ) (names : Names) (es : List Entry) → members_placed i names (entry_parts s es) ≡ entry_parts s (entries_at i names es)
  placed_is i names [] = refl
  placed_is i names (e ∷ es) = kept (is_place i (place_of e.0 names)) e (entries_at i names es) (members_placed i names (entry_parts s es)) (placed_is i names es)

  without_is : (names : Names) (es : List Entry) → members_without_place names (entry_parts s es) ≡ entry_parts s (entries_without_place names es)
  without_is names [] = refl
  without_is names (e ∷ es) = kept (not (is_some (place_of e.0 names))) e (entries_without_place names es) (members_without_place names (entry_parts s es)) (without_is names es)

  -- ---- one field

  slot_is : (f : FieldModel) (es : List Entry) → field_takes leads f (entry_parts s es) ≡ slot_at s f es
  slot_is f [] = refl
  slot_is f (e ∷ []) = as_type_is s (present_type f) e.1
  slot_is f (d ∷ e ∷ es) = refl

  of_two : (f : FieldModel) (es : List Entry) → slot_at s f (first_two es) ≡ slot_at s f es
  of_two f [] = refl
  of_two f (e ∷ []) = refl
  of_two f (d ∷ e ∷ es) = refl

  rest_is : (t : TypeModel) (es : List Entry) → map_takes t (entry_parts s es) ≡ rest_at s t es
  rest_is boolean_type es = refl
  rest_is (integer_type g) es = refl
  rest_is text_type es = refl
  rest_is (native_type f) es = refl
  rest_is any_type es = refl
  rest_is unit_type es = refl
  rest_is (option_type t) es = refl
  rest_is (boxed_type t) es = refl
  rest_is (vec_type t) es = refl
  rest_is (set_type t) es = refl
  rest_is (map_type k t) es = pairs_are s k t es
  rest_is (tuple_type ts) es = refl
  rest_is (array_type t n) es = refl
  rest_is (item_type n) es = refl
  rest_is outside_type es = refl

  -- ---- the fields in order

  moved : (a p q : Bool) → (a && (p && q)) ≡ (p && (a && q))
  moved true p q = refl
  moved false true q = refl
  moved false false q = refl

  grouped : (a p q : Bool) → ((a && p) && q) ≡ (a && (p && q))
  grouped true p q = refl
  grouped false p q = refl

  module _ (own : ℕ → List Entry) (unnamed : List Entry) where
    by_rest : (r : Bool) (f : FieldModel) (i : ℕ) (ms : List (MemberPart Judge)) (rest : Bool) (fs : List FieldModel)
        → cond r [] (own_members f ms) ≡ cond r [] (entry_parts s (own i))
        → (fields_take leads fs (cond r ms (other_members f ms)) && rests_take leads fs (entry_parts s unnamed)) ≡ rest
        → (cond r (fields_take leads fs ms) (field_takes leads f (own_members f ms) && fields_take leads fs (other_members f ms)) && ((not r || map_takes f.field_type (entry_parts s unnamed)) && rests_take leads fs (entry_parts s unnamed)))
        ≡ (cond r (rest_at s f.field_type unnamed) (slot_at s f (own i)) && rest)
    by_rest true f i ms rest fs h g =
        moved (fields_take leads fs ms) (map_takes f.field_type (entry_parts s unnamed)) (rests_take leads fs (entry_parts s unnamed))
        ∙ (λ j. rest_is f.field_type unnamed j && g j)
    by_rest false f i ms rest fs h g =
        grouped (field_takes leads f (own_members f ms)) (fields_take leads fs (other_members f ms)) (rests_take leads fs (entry_parts s unnamed))
        ∙ (λ j. (ap (field_takes leads f) h ∙ slot_is f (own i)) j && g j)

    first_own : (r : Bool) (f : FieldModel) (ms : List (MemberPart Judge)) (qs : List (MemberPart Judge)) → cond r [] (own_members f ms) ≡ qs → cond r [] (own_members f ms) ≡ cond r [] qs
    first_own true f ms qs h = refl
    first_own false f ms qs h = h

    in_order : (i : ℕ) (fs : List FieldModel) (ms : List (MemberPart Judge)) → ((j : ℕ) → own_at j fs ms ≡ entry_parts s (own (i + j)))
        → (fields_take leads fs ms && rests_take leads fs (entry_parts s unnamed)) ≡ fields_from s own unnamed i fs
    in_order i [] ms h = refl
    in_order i (f ∷ fs) ms h =
        let first : i + 0 ≡ i = omega arith in
        by_rest f.is_rest f i ms (fields_from s own unnamed (suc i) fs) fs
        (first_own f.is_rest f ms (entry_parts s (own i)) (h 0 ∙ ap (λ k. entry_parts s (own k)) first))
        (in_order (suc i) fs (cond f.is_rest ms (other_members f ms)) (λ j. h (suc j) ∙ ap (λ k. entry_parts s (own k)) (next j)))
      where
        next : (j : ℕ) → i + suc j ≡ suc i + j
        next j = omega arith

  -- ---- the members, where unknown ones may be refused

  abbrev unless_unknown : Option Entry → Bool → Bool
  unless_unknown None b = b
  unless_unknown (Some e) b = false

  first_unknown : (closed : Bool) (us : List Entry) (p q : Bool) → (((not closed || is_none (entry_parts s us)) && p) && q) ≡ unless_unknown (first_if closed us) (p && q)
  first_unknown true [] p q = refl
  first_unknown true (u ∷ us) p q = refl
  first_unknown false [] p q = refl
  first_unknown false (u ∷ us) p q = refl

  abbrev all_fields : List FieldModel → List Entry → Bool
  all_fields fs es = fields_from s (λ i. entries_at i (field_names 0 fs) es) (entries_without_place (field_names 0 fs) es) 0 fs

  from_first : (j : ℕ) → j ≡ 0 + j
  from_first j = omega arith

  members_are : (closed : Bool) (fs : List FieldModel) (es : List Entry)
      → members_at s closed fs es ≡ unless_unknown (first_if closed (entries_without_place (field_names 0 fs) es)) (all_fields fs es)
  members_are closed fs es =
      ap (λ us. ((not closed || is_none us) && fields_take leads fs (entry_parts s es)) && rests_take leads fs us) (unnamed_are_found fs (entry_parts s es) ∙ without_is (field_names 0 fs) es)
      ∙ first_unknown closed (entries_without_place (field_names 0 fs) es) (fields_take leads fs (entry_parts s es)) (rests_take leads fs (entry_parts s (entries_without_place (field_names 0 fs) es)))
      ∙ ap (unless_unknown (first_if closed (entries_without_place (field_names 0 fs) es)))
      (in_order (λ i. entries_at i (field_names 0 fs) es) (entries_without_place (field_names 0 fs) es) 0 fs (entry_parts s es) (λ j. own_are_found fs (entry_parts s es) j ∙ placed_is j (field_names 0 fs) es ∙ ap (λ k. entry_parts s (entries_at k (field_names 0 fs) es)) (from_first j)))

  pub unknown_there : (closed : Bool) (fs gs : List FieldModel) (es ds : List Entry) (e : Entry) → gs ≡ fs → ds ≡ es
      → Some e ≡ first_if closed (entries_without_place (field_names 0 gs) ds) → false ≡ members_at s closed fs es
  unknown_there closed fs gs es ds e f d h =
      ap (λ q. unless_unknown q (all_fields gs ds)) h ∙ sym (members_are closed gs ds) ∙ (λ i. members_at s closed (f i) (d i))

  pub none_unknown : (closed : Bool) (fs gs : List FieldModel) (es ds : List Entry) (b : Bool) → gs ≡ fs → ds ≡ es → None ≡ first_if closed (entries_without_place (field_names 0 gs) ds)
      → b ≡ all_fields gs ds → b ≡ members_at s closed fs es
  none_unknown closed fs gs es ds b f d h g =
      g ∙ ap (λ o. unless_unknown o (all_fields gs ds)) h ∙ sym (members_are closed gs ds) ∙ (λ i. members_at s closed (f i) (d i))

  -- ---- one field, by its slot

  pub present_there : (t : Option TypeModel) (u : TypeModel) (v : Value) (b : Bool) (x : TypeModel) → Some x ≡ t → or_outside t ≡ u → b ≡ part_at s x v → b ≡ part_at s u v
  present_there t u v b x h e is = is ∙ ap (λ o. part_at s (or_outside o) v) h ∙ ap (λ z. part_at s z v) e

  pub present_nowhere : (t : Option TypeModel) (u : TypeModel) (v : Value) → None ≡ t → or_outside t ≡ u → false ≡ part_at s u v
  present_nowhere t u v h e = ap (λ o. part_at s (or_outside o) v) h ∙ ap (λ z. part_at s z v) e

  module _ (f : FieldModel) (un own : List Entry) where
    by_rest_test : (b : Bool) → f.is_rest ≡ b → cond b (rest_at s f.field_type un) (slot_at s f own) ≡ field_at s f un own
    by_rest_test b h = ap (λ c. cond c (rest_at s f.field_type un) (slot_at s f own)) (sym h)

    pub rest_field : (t : TypeModel) (ds : List Entry) (b : Bool) → f.is_rest ≡ true → t ≡ f.field_type → ds ≡ un → b ≡ rest_at s t ds → b ≡ field_at s f un own
    rest_field t ds b h e l w = w ∙ (λ i. rest_at s (e i) (l i)) ∙ by_rest_test true h

    by_slot : (two : List Entry) (b : Bool) → f.is_rest ≡ false → two ≡ first_two own → b ≡ slot_at s f two → b ≡ field_at s f un own
    by_slot two b h e w = w ∙ ap (slot_at s f) e ∙ of_two f own ∙ by_rest_test false h

    pub empty_field : (b : Bool) → f.is_rest ≡ false → [] ≡ first_two own → b ≡ slot_at s f [] → b ≡ field_at s f un own
    empty_field b h e w = by_slot [] b h e w

    pub one_field : (d : Entry) (b : Bool) → f.is_rest ≡ false → d ∷ [] ≡ first_two own → b ≡ part_at s (present_type f) d.1 → b ≡ field_at s f un own
    one_field d b h e w = by_slot (d ∷ []) b h e w

    pub two_field : (d e : Entry) → f.is_rest ≡ false → d ∷ e ∷ [] ≡ first_two own → false ≡ field_at s f un own
    two_field d e h g = by_slot (d ∷ e ∷ []) false h g refl
