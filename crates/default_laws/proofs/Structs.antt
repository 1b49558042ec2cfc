-- Structs: what is read of the fields that are written is what is found of the fields of the entry.
use Rattle.std.proofs.Common.{◌≡◌, ℕ, List, [], ◌∷◌, Bool, true, false, ◌||◌, not, refl, ap, ◌∙◌, Option, None, inl, inr, bytes_eq}
use Rattle.std.specs.List.{filter, list_all, AllByRecursion}
use Rattle.json_value.specs.Value.{Value}
use Rattle.model_defs.specs.Types.{TypeModel, boolean_type, text_type}
use Rattle.model_defs.specs.Model.{FieldModel}
use Rattle.model_defs.specs.Layer as layer
use Rattle.model_defs.specs.Layer.{MemberPart, Parts, is_none, named, own_members, other_members, unnamed_members, present_type}
use Rattle.model_defs.proofs.Flat.{and_first, and_second, or_false, not_true, kept}
use Rattle.typed_defs.specs.Typed.{Typed}
use Rattle.reading_defs.specs.Reading as reading
use Rattle.reading_defs.specs.Reading.{Read, stopped, under, helped, followed, if_sound, default_given, after_unnamed, pairs_read}
use Rattle.entry_defs.specs.Entry.{Target, Entry, option_entry, State, required, optional, stated, Shape, Fields, no_fields, field_then, field_again, rest_field, next_field, FieldEntry, fields_of, rest_of}
use Rattle.entry_defs.specs.Layer.{others}
use Rattle.entry_defs.specs.Members.{names_differ}
use Rattle.entry_defs.specs.Sound.{Each, EachField}
use Rattle.emit_defs.specs.Setting.{Setting}
use Rattle.emit_defs.specs.Models.{unboxed, type_model, used_type, Manner, manner, field_model, struct_models, after_state, manner_type, manner_default, manner_helper, manner_skip}
use Rattle.emit_defs.proofs.Places.{next_each}
use Rattle.emit_defs.proofs.Struct.{own, rest_of_first, unnamed_left}
use Rattle.default_defs.specs.Found.{Found, refused, if_so, both}
use Rattle.default_defs.specs.Layer.{Reader, left_out, field_read, fields_read, rest_read, members_of_struct, struct_read}
use Rattle.default_defs.proofs.Alike as alike
use Rattle.default_laws.specs.Laws.{as_found}
use Rattle.default_laws.proofs.AsFound.{of_map, of_under, of_followed, of_sound, of_helped, both_ended, both_grouped}
use Rattle.default_laws.proofs.Says.{FieldsAreRead, Says, IsName, MembersSay, PartsSay}
use Rattle.default_laws.proofs.Lists.{values}

-- ---- filters by names

module _ {J : Type 0} where
  own_named : (n : List ℕ) (ms : List (MemberPart J)) → own n ms ≡ named n ms
  own_named n ms = λ i. filter (λ m. or_false (bytes_eq n m.name) i) ms

  own_kept : (k n : List ℕ) → bytes_eq k n ≡ false → (ms : List (MemberPart J)) → own n (rest_of_first k ms) ≡ own n ms
  own_kept k n h ms = kept (k, boolean_type) (n, boolean_type) h ms

  -- the members of other names are kept where one name's are taken out
  kept_all : (k : List ℕ) (ms whole : List (MemberPart J)) (gs : List FieldEntry) → list_all (λ g. not (bytes_eq k g.name)) gs ≡ true
      → AllByRecursion (λ g. own g.name ms ≡ named g.name whole) gs → AllByRecursion (λ g. own g.name (rest_of_first k ms) ≡ named g.name whole) gs
  kept_all k ms whole [] d h = tt
  kept_all k ms whole (g ∷ gs) d h = (own_kept k g.name (not_true _ (and_first _ _ d)) ms ∙ h.0, kept_all k ms whole gs (and_second _ _ d) h.1)

  own_all : (ms : List (MemberPart J)) (gs : List FieldEntry) → AllByRecursion (λ g. own g.name ms ≡ named g.name ms) gs
  own_all ms [] = tt
  own_all ms (g ∷ gs) = (own_named g.name ms, own_all ms gs)

-- ---- how a field is written

present : (l : Bool) (st : State) (e : Entry) (t : TypeModel) → layer.helped_type (manner_helper (manner l st e)) (manner_type (manner l st e) t) ≡ t
present true required e t = refl
present false required e t = refl
present l (stated v) e t = refl
present l optional (option_entry e) t = refl
present l optional _ t = refl

-- a field with its manner; names say nothing of what stands for it where it is left out
abbrev made : Manner → ℕ → List ℕ → TypeModel → FieldModel
made m n k t = record {
  has_name = true;
  serialize_name = k;
  deserialize_names = k ∷ [];
  field_type = manner_type m t;
  default = manner_default m n;
  helper = manner_helper m;
  skip = manner_skip m;
  is_rest = false;
}

module _ (s : Setting) (missed : Entry → Value → Found) (default_read : ℕ → TypeModel → Read Typed) (P : List ℕ → Shape → Type 0) (Q : Target → Type 0)
    (absent_of : TypeModel → Option Typed) (lacks : (b : List ℕ → Bool) (e : Entry) → Each P Q e → s.leads e ≡ false → absent_of (type_model s.name b e) ≡ None) (owner : List ℕ) where
  abbrev Key : Reader → reading.Reader → Type 0
  Key j k = IsName s missed default_read P Q j k

  abbrev Part : Reader → reading.Reader → Type 0
  Part j k = Says s missed default_read P Q j k

  abbrev Members : List (MemberPart Reader) → List (MemberPart reading.Reader) → Type 0
  Members js ks = MembersSay s missed default_read P Q js ks

  abbrev All : Parts Reader → Parts reading.Reader → Type 0
  All ps qs = PartsSay s missed default_read P Q ps qs

  abbrev IsRead : ℕ → Entry → State → Type 0
  IsRead n e st = (w : Value) → st ≡ stated w → (missed e w ≡ refused → ⊥) × (as_found (default_read n (used_type s owner e)) ≡ missed e w)

  -- ---- one field

  left : (l : Bool) (st : State) (e : Entry) (n : ℕ) (k : List ℕ) → s.leads e ≡ l → Each P Q e → IsRead n e st
      → as_found (default_given default_read absent_of (made (manner l st e) n k (used_type s owner e)) (manner_default (manner l st e) n)) ≡ left_out missed st e
  left true required e n k l h d = refl
  left false required e n k l h d = ap (λ o. as_found (reading.given o)) (lacks (s.is_boxed owner) e h l)
  left l (stated w) e n k a h d =
      let one = d w refl in
      of_sound (default_read n (used_type s owner e)) (missed e w) one.0 one.1
  left l optional (option_entry e) n k a h d = refl
  left l optional _ n k a h d = refl

  one_field : (n : ℕ) (f : FieldEntry) → Each P Q f.entry → IsRead n f.entry f.state → (js : List (MemberPart Reader)) (ks : List (MemberPart reading.Reader)) → Members js ks
      → as_found (reading.field_read default_read absent_of (field_model s owner n f) ks) ≡ field_read missed f js
  one_field n f h d [] [] x = left (s.leads f.entry) f.state f.entry n f.name refl h d
  one_field n f h d [] (k ∷ ks) x = absurd x
  one_field n f h d (j ∷ js) [] x = absurd x
  one_field n f h d (j ∷ []) (k ∷ []) x =
      let m = field_model s owner n f in
      of_under k.name (helped m.helper (k.value.as_type (present_type m))) ∙ of_helped m.helper (k.value.as_type (present_type m))
      ∙ ap (λ t. as_found (k.value.as_type t)) (present (s.leads f.entry) f.state f.entry (used_type s owner f.entry)) ∙ x.0.2.one (s.is_boxed owner) f.entry h
  one_field n f h d (j ∷ []) (k ∷ l ∷ ks) x = absurd x.1
  one_field n f h d (j ∷ i ∷ js) (k ∷ []) x = absurd x.1
  one_field n f h d (j ∷ i ∷ js) (k ∷ l ∷ ks) x = refl

  -- ---- fields: `whole` are all members, `ms` those that no earlier field took, and `us` those that no field names

  abbrev Reads : ℕ → Fields → List (MemberPart reading.Reader) → List (MemberPart reading.Reader) → Found
  Reads n fs us ms = as_found (reading.fields_read default_read absent_of (struct_models s owner n fs) us ms)

  then_fields : (n : ℕ) (f : FieldEntry) (fs : Fields) → Each P Q f.entry → IsRead n f.entry f.state → (js : List (MemberPart Reader)) (whole ms us : List (MemberPart reading.Reader))
      → Members js whole → own f.name ms ≡ named f.name whole → (o : Found) → Reads (after_state f.state n) fs us (rest_of_first f.name ms) ≡ both (fields_read missed (fields_of fs) js) o
      → as_found (reading.fields_read default_read absent_of (field_model s owner n f ∷ struct_models s owner (after_state f.state n) fs) us ms)
      ≡ both (both (field_read missed f (named f.name js)) (fields_read missed (fields_of fs) js)) o
  then_fields n f fs h d js whole ms us x mine o rec =
      let m = field_model s owner n f in
      let one : as_found (reading.field_read default_read absent_of m (own f.name ms)) ≡ field_read missed f (named f.name js) =
      ap (λ z. as_found (reading.field_read default_read absent_of m z)) mine
      ∙ one_field n f h d (named f.name js) (named f.name whole) (alike.named_alike Reader reading.Reader Key Part f.name js whole x) in
      of_followed (reading.field_read default_read absent_of m (own f.name ms)) (reading.fields_read default_read absent_of (struct_models s owner (after_state f.state n) fs) us (rest_of_first f.name ms))
      ∙ (λ i. both (one i) (rec i)) ∙ both_grouped (field_read missed f (named f.name js)) (fields_read missed (fields_of fs) js) o

  each_field : (n : ℕ) (fs : Fields) → names_differ (fields_of fs) ≡ true → EachField P Q fs → FieldsAreRead s missed default_read owner n (fields_of fs)
      → (js us : List (MemberPart Reader)) (whole ms vs : List (MemberPart reading.Reader)) → Members js whole → Members us vs → AllByRecursion (λ f. own f.name ms ≡ named f.name whole) (fields_of fs)
      → Reads n fs vs ms ≡ both (fields_read missed (fields_of fs) js) (rest_read (rest_of fs) us)
  each_field n no_fields d h st js us whole ms vs x y a = refl
  each_field n (rest_field i e) d h st js us whole ms vs x y a =
      of_followed (reading.map_read text_type (type_model s.name unboxed e) vs) _ ∙ both_ended _ ∙ of_map _ (pairs_read text_type (type_model s.name unboxed e) vs)
      ∙ values s missed default_read P Q unboxed e h us vs y
  each_field n (field_then i k e t fs) d h st js us whole ms vs x y a =
      let f : FieldEntry = record { identifier = i; name = k; entry = e; state = t } in
      then_fields n f fs h.0 (λ w z. st n e w _ (inl (refl, z, refl, refl))) js whole ms vs x a.0 (rest_read (rest_of fs) us)
      (each_field (after_state t n) fs (and_second _ _ d) h.1 (λ m c w ty z. st m c w ty (inr z)) js us whole (rest_of_first k ms) vs x y (kept_all k ms whole (fields_of fs) (and_first _ _ d) a.1))
  each_field n (field_again i k fs) d h st js us whole ms vs x y a =
      let f : FieldEntry = record { identifier = i; name = k; entry = next_field fs; state = required } in
      then_fields n f fs (next_each P Q fs h) (λ w z. st n (next_field fs) w _ (inl (refl, z, refl, refl))) js whole ms vs x a.0 (rest_read (rest_of fs) us)
      (each_field (after_state required n) fs (and_second _ _ d) h (λ m c w ty z. st m c w ty (inr z)) js us whole (rest_of_first k ms) vs x y (kept_all k ms whole (fields_of fs) (and_first _ _ d) a.1))

  -- ---- members

  pub members : (closed : Bool) (n : ℕ) (fs : Fields) → names_differ (fields_of fs) ≡ true → EachField P Q fs → FieldsAreRead s missed default_read owner n (fields_of fs)
      → (js : List (MemberPart Reader)) (ks : List (MemberPart reading.Reader)) → Members js ks
      → as_found (reading.members_read default_read absent_of closed (struct_models s owner n fs) ks) ≡ members_of_struct missed closed (fields_of fs) (rest_of fs) js
  members closed n fs d h st js ks x =
      ap (λ us. as_found (after_unnamed default_read absent_of closed (struct_models s owner n fs) us ks)) (unnamed_left s owner n fs ks)
      ∙ by closed (others (fields_of fs) js) (others (fields_of fs) ks) (alike.others_alike Reader reading.Reader Key Part (fields_of fs) js ks x)
    where
      by : (c : Bool) (us : List (MemberPart Reader)) (vs : List (MemberPart reading.Reader)) → Members us vs
          → as_found (after_unnamed default_read absent_of c (struct_models s owner n fs) vs ks) ≡ if_so (not c || is_none us) (both (fields_read missed (fields_of fs) js) (rest_read (rest_of fs) us))
      by true [] [] y = each_field n fs d h st js [] ks ks [] x tt (own_all ks (fields_of fs))
      by true [] (v ∷ vs) y = absurd y
      by true (u ∷ us) [] y = absurd y
      by true (u ∷ us) (v ∷ vs) y = refl
      by false us vs y = each_field n fs d h st js us ks ks vs x y (own_all ks (fields_of fs))

  pub struct : (closed : Bool) (n : ℕ) (fs : Fields) → names_differ (fields_of fs) ≡ true → EachField P Q fs → FieldsAreRead s missed default_read owner n (fields_of fs)
      → (ps : Parts Reader) (qs : Parts reading.Reader) → All ps qs
      → as_found (reading.struct_read default_read absent_of closed (struct_models s owner n fs) qs) ≡ struct_read missed closed (fields_of fs) (rest_of fs) ps
  struct closed n fs d h st =
      alike.by_kind Reader reading.Reader Key Part (λ ps qs. as_found (reading.struct_read default_read absent_of closed (struct_models s owner n fs) qs) ≡ struct_read missed closed (fields_of fs) (rest_of fs) ps)
      refl (λ js ks x. refl) (members closed n fs d h st)
