-- Emitted fields: within the forms, and what is written under their names is read under them.
use Rattle.std.proofs.Common.{◌≡◌, ◌<◌, ◌≤◌, ◌^◌, ◌+◌, ℕ, suc, List, [], ◌∷◌, ◌++◌, length, Bool, true, false, ◌&&◌, ◌||◌, not, refl, sym, ap, ◌∙◌, true≢false, bytes_eq, arith}
use Rattle.std.specs.List.{list_all}
use Rattle.std.specs.Fmt.{decimal}
use Rattle.std.proofs.lemmas.Fmt.{decimal_injective}
use Rattle.std.proofs.lemmas.Slice.Eq.{bytes_eq-Decides}
use Rattle.model_defs.specs.Types.{TypeModel}
use Rattle.model_defs.specs.Model.{FieldModel}
use Rattle.model_defs.proofs.Flat.{and_first, and_second, or_false}
use Rattle.model_defs.proofs.Rising.{bytes_itself}
use Rattle.typed_defs.specs.Fit.{is_field_fit}
use Rattle.writing_laws.specs.Tables.{reads_name, takes_none_of, names_lead_back, has_one_rest, is_apart_from, fields_lead_back}
use Rattle.entry_defs.specs.Entry.{State, required, optional, stated, Entry, option_entry, vec_entry, set_entry, map_entry, Fields, fields_of, FieldEntry, Rest, no_rest, rest, rest_of}
use Rattle.entry_defs.specs.Members.{names_differ}
use Rattle.emit_defs.specs.Setting.{Setting}
use Rattle.emit_defs.specs.Models as manners
use Rattle.emit_defs.specs.Models.{used_type, Manner, plain, defaulted, skipped, held, manner, manner_type, manner_default, manner_helper, manner_skip, after_state, unnamed_model, unnamed_models, field_model, field_models, rest_models, struct_models}

pub both : (a b : Bool) → a ≡ true → b ≡ true → (a && b) ≡ true
both a b h k = λ i. h i && k i

pub differ_back : (a b : List ℕ) → bytes_eq a b ≡ false → bytes_eq b a ≡ false
differ_back a b h = elim (bytes_eq b a) as (λ z. bytes_eq b a ≡ z → z ≡ false) [
  | true ↦ λ e. absurd (true≢false (sym (bytes_itself a) ∙ ap (bytes_eq a) (sym ((bytes_eq-Decides b a).0 e)) ∙ h))
  | false ↦ λ e. refl
] refl

pub not_true : (b : Bool) → not b ≡ true → b ≡ false
not_true true h = absurd (true≢false (sym h))
not_true false h = refl

manner_apart : (m : Manner) (n : ℕ) → is_apart_from (manner_helper m) (manner_default m n) ≡ true
manner_apart plain n = refl
manner_apart manners.whole n = refl
manner_apart defaulted n = refl
manner_apart (skipped x) n = refl
manner_apart held n = refl

module _ (s : Setting) (owner : List ℕ) where
  abbrev made : Bool → State → Entry → List ℕ → ℕ → FieldModel
  made l st e k n = record {
    has_name = true;
    serialize_name = k;
    deserialize_names = k ∷ [];
    field_type = manner_type (manner l st e) (used_type s owner e);
    default = manner_default (manner l st e) n;
    helper = manner_helper (manner l st e);
    skip = manner_skip (manner l st e);
    is_rest = false;
  }

  made_fit : (l : Bool) (st : State) (e : Entry) (k : List ℕ) (n : ℕ) → is_field_fit (made l st e k n) ≡ true
  made_fit true required e k n = refl
  made_fit false required e k n = refl
  made_fit l (stated v) e k n = refl
  made_fit l optional (option_entry e) k n = refl
  made_fit l optional (vec_entry e) k n = refl
  made_fit l optional (set_entry e) k n = refl
  made_fit l optional (map_entry j e) k n = refl
  made_fit l optional _ k n = refl

  abbrev all : List FieldEntry → Rest → ℕ → List FieldModel
  all fs o n = field_models s owner n fs ++ rest_models s owner o

  all_fit : (fs : List FieldEntry) (o : Rest) (n : ℕ) → list_all is_field_fit (all fs o n) ≡ true
  all_fit [] no_rest n = refl
  all_fit [] (rest i e) n = refl
  all_fit (f ∷ fs) o n = both (is_field_fit (field_model s owner n f)) _ (made_fit (s.leads f.entry) f.state f.entry f.name n) (all_fit fs o (after_state f.state n))

  all_apart : (fs : List FieldEntry) (o : Rest) (n : ℕ) → list_all (λ f. is_apart_from f.helper f.default) (all fs o n) ≡ true
  all_apart [] no_rest n = refl
  all_apart [] (rest i e) n = refl
  all_apart (f ∷ fs) o n = both (is_apart_from (field_model s owner n f).helper (field_model s owner n f).default) _ (manner_apart (manner (s.leads f.entry) f.state f.entry) n) (all_apart fs o (after_state f.state n))

  one_rest : (fs : List FieldEntry) (o : Rest) (n : ℕ) → has_one_rest (all fs o n) ≡ true
  one_rest [] no_rest n = refl
  one_rest [] (rest i e) n = refl
  one_rest (f ∷ fs) o n = one_rest fs o (after_state f.state n)

  none_taken : (f : FieldEntry) (k : ℕ) (gs : List FieldEntry) (o : Rest) (n : ℕ) → list_all (λ g. not (bytes_eq f.name g.name)) gs ≡ true → takes_none_of (field_model s owner k f) (all gs o n) ≡ true
  none_taken f k [] no_rest n h = refl
  none_taken f k [] (rest i e) n h = refl
  none_taken f k (g ∷ gs) o n h =
      both (not (reads_name (field_model s owner k f) g.name)) _ (ap not (or_false (bytes_eq f.name g.name)) ∙ and_first _ _ h) (none_taken f k gs o (after_state g.state n) (and_second (not (bytes_eq f.name g.name)) _ h))

  lead_back : (fs : List FieldEntry) (o : Rest) (n : ℕ) → names_differ fs ≡ true → names_lead_back (all fs o n) ≡ true
  lead_back [] no_rest n h = refl
  lead_back [] (rest i e) n h = refl
  lead_back (f ∷ fs) o n h =
      both (reads_name (field_model s owner n f) f.name && takes_none_of (field_model s owner n f) (all fs o (after_state f.state n))) _
      (both (reads_name (field_model s owner n f) f.name) _ (ap (λ b. b || false) (bytes_itself f.name)) (none_taken f n fs o (after_state f.state n) (and_first _ _ h)))
      (lead_back fs o (after_state f.state n) (and_second (list_all (λ g. not (bytes_eq f.name g.name)) fs) _ h))

  pub struct_fit : (fs : Fields) (n : ℕ) → list_all is_field_fit (struct_models s owner n fs) ≡ true
  struct_fit fs n = all_fit (fields_of fs) (rest_of fs) n

  pub struct_back : (fs : Fields) (n : ℕ) → names_differ (fields_of fs) ≡ true → fields_lead_back (struct_models s owner n fs) ≡ true
  struct_back fs n h =
      both (names_lead_back (struct_models s owner n fs)) _ (lead_back (fields_of fs) (rest_of fs) n h)
      (both (has_one_rest (struct_models s owner n fs)) _ (one_rest (fields_of fs) (rest_of fs) n) (all_apart (fields_of fs) (rest_of fs) n))

  -- no field is written under the name of a tag that none has
  pub beside : (tag : List ℕ) (fs : List FieldEntry) (o : Rest) (n : ℕ) → list_all (λ f. not (bytes_eq f.name tag)) fs ≡ true → list_all (λ f. f.is_rest || not (bytes_eq tag f.serialize_name)) (all fs o n) ≡ true
  beside tag [] no_rest n h = refl
  beside tag [] (rest i e) n h = refl
  beside tag (f ∷ fs) o n h =
      both (not (bytes_eq tag f.name)) _ (ap not (differ_back f.name tag (not_true (bytes_eq f.name tag) (and_first _ _ h)))) (beside tag fs o (after_state f.state n) (and_second (not (bytes_eq f.name tag)) _ h))

-- ---- places

pub places_fit : (i : ℕ) (ts : List TypeModel) → list_all is_field_fit (unnamed_models i ts) ≡ true
places_fit i [] = refl
places_fit i (t ∷ ts) = places_fit (suc i) ts

apart_numbers : (i j : ℕ) → i < j → j < 2 ^ 64 → bytes_eq (decimal i) (decimal j) ≡ false
apart_numbers i j h k = elim (bytes_eq (decimal i) (decimal j)) as (λ b. bytes_eq (decimal i) (decimal j) ≡ b → b ≡ false) [
  | true ↦ λ e. let same : i ≡ j = decimal_injective i j (omega arith) k ((bytes_eq-Decides (decimal i) (decimal j)).0 e) in absurd (omega arith)
  | false ↦ λ e. refl
] refl

places_apart : (i : ℕ) (t : TypeModel) (j : ℕ) (ts : List TypeModel) → i < j → j + length ts ≤ 2 ^ 64 → takes_none_of (unnamed_model i t) (unnamed_models j ts) ≡ true
places_apart i t j [] h k = refl
places_apart i t j (u ∷ us) h k =
    both (not (reads_name (unnamed_model i t) (decimal j))) _ (ap not (or_false (bytes_eq (decimal i) (decimal j)) ∙ apart_numbers i j h (omega arith))) (places_apart i t (suc j) us (omega arith) (omega arith))

places_lead : (i : ℕ) (ts : List TypeModel) → i + length ts ≤ 2 ^ 64 → names_lead_back (unnamed_models i ts) ≡ true
places_lead i [] h = refl
places_lead i (t ∷ ts) h =
    both (reads_name (unnamed_model i t) (decimal i) && takes_none_of (unnamed_model i t) (unnamed_models (suc i) ts)) _
    (both (reads_name (unnamed_model i t) (decimal i)) _ (ap (λ b. b || false) (bytes_itself (decimal i))) (places_apart i t (suc i) ts (omega arith) (omega arith)))
    (places_lead (suc i) ts (omega arith))

places_rest : (i : ℕ) (ts : List TypeModel) → has_one_rest (unnamed_models i ts) ≡ true
places_rest i [] = refl
places_rest i (t ∷ ts) = places_rest (suc i) ts

places_helped : (i : ℕ) (ts : List TypeModel) → list_all (λ f. is_apart_from f.helper f.default) (unnamed_models i ts) ≡ true
places_helped i [] = refl
places_helped i (t ∷ ts) = places_helped (suc i) ts

pub places_back : (ts : List TypeModel) → length ts ≤ 2 ^ 64 → fields_lead_back (unnamed_models 0 ts) ≡ true
places_back ts h = both (names_lead_back (unnamed_models 0 ts)) _ (places_lead 0 ts (omega (arith, h))) (both (has_one_rest (unnamed_models 0 ts)) _ (places_rest 0 ts) (places_helped 0 ts))
