-- What each form of entry takes, where the value is seen whole.
use Rattle.std.proofs.Common.{◌≡◌, ℕ, List, Bool, true, false, ◌&&◌, ◌||◌, Option, refl, sym, ap, ◌∙◌}
use Rattle.json_value.specs.Value as value
use Rattle.json_value.specs.Value.{Value, null, number, fraction, text, list, object}
use Rattle.schema_defs.specs.declared.Format.{Format}
use Rattle.schema_defs.specs.Texts.{Relations}
use Rattle.model_defs.specs.Model.{RuleD, internal_tag, adjacent_tag}
use Rattle.model_defs.specs.Layer.{is_null, is_boolean, is_text, is_in_range, has_the_format}
use Rattle.entry_defs.specs.Entry.{IntegerName, Entry, boolean_entry, integer_entry, text_entry, native_entry, any_entry, unit_entry, option_entry, vec_entry, set_entry, map_entry, tuple_entry, array_entry, item, Entries, struct_shape, enum_shape, newtype_shape, Fields, Variants}
use Rattle.entry_defs.specs.Layer.{integer_range, rule_holds}
use Rattle.listed_reading.specs.Followed.{Followed, takes_in}
use Rattle.listed_reading.specs.Owners.{is_list, is_object}

module _ (r : Relations) (v : Value) where
  -- ---- without parts

  pub boolean_taken : (b : Bool) → b ≡ is_boolean v → (t : Followed) → takes_in t r boolean_entry v ≡ b
  unfolding takes_in
  boolean_taken b h t = sym h

  pub integer_taken : (g : IntegerName) (b : Bool) → b ≡ is_in_range (integer_range g) v → (t : Followed) → takes_in t r (integer_entry g) v ≡ b
  unfolding takes_in
  integer_taken g b h t = sym h

  pub text_taken : (b : Bool) → b ≡ is_text v → (t : Followed) → takes_in t r text_entry v ≡ b
  unfolding takes_in
  text_taken b h t = sym h

  pub native_taken : (f : Format) (b : Bool) → b ≡ has_the_format r f v → (t : Followed) → takes_in t r (native_entry f) v ≡ b
  unfolding takes_in
  native_taken f b h t = sym h

  pub any_taken : (t : Followed) → takes_in t r any_entry v ≡ true
  unfolding takes_in
  any_taken t = refl

  pub unit_taken : (b : Bool) → b ≡ is_null v → (t : Followed) → takes_in t r unit_entry v ≡ b
  unfolding takes_in
  unit_taken b h t = sym h

  -- ---- of one part

  pub null_taken : is_null v ≡ true → (t : Followed) (e : Entry) → takes_in t r (option_entry e) v ≡ true
  unfolding takes_in
  null_taken h t e = ap (λ b. b || takes_in t r e v) h

  pub option_passed : is_null v ≡ false → (t : Followed) (e : Entry) → takes_in t r (option_entry e) v ≡ takes_in t r e v
  unfolding takes_in
  option_passed h t e = ap (λ b. b || takes_in t r e v) h

  pub newtype_refused : (n : List ℕ) (rule : Option RuleD) → false ≡ rule_holds r v rule → (t : Followed) (e : Entry) → takes_in t r (item n (newtype_shape e rule)) v ≡ false
  unfolding takes_in
  newtype_refused n rule h t e = ap (λ b. takes_in t r e v && b) (sym h) ∙ nothing (takes_in t r e v)
    where
      nothing : (b : Bool) → (b && false) ≡ false
      nothing true = refl
      nothing false = refl

  pub newtype_passed : (n : List ℕ) (rule : Option RuleD) → true ≡ rule_holds r v rule → (t : Followed) (e : Entry) → takes_in t r (item n (newtype_shape e rule)) v ≡ takes_in t r e v
  unfolding takes_in
  newtype_passed n rule h t e = ap (λ b. takes_in t r e v && b) (sym h) ∙ same (takes_in t r e v)
    where
      same : (b : Bool) → (b && true) ≡ b
      same true = refl
      same false = refl

-- ---- lists and objects alone

module _ (r : Relations) where
  pub vec_refused : (v : Value) → is_list v ≡ false → (t : Followed) (e : Entry) → takes_in t r (vec_entry e) v ≡ false
  unfolding takes_in
  vec_refused null h t e = refl
  vec_refused (value.boolean b) h t e = refl
  vec_refused (number z) h t e = refl
  vec_refused fraction h t e = refl
  vec_refused (text s) h t e = refl
  vec_refused (list xs) h t e = cc
  vec_refused (object ms) h t e = refl

  pub set_refused : (v : Value) → is_list v ≡ false → (t : Followed) (e : Entry) → takes_in t r (set_entry e) v ≡ false
  unfolding takes_in
  set_refused null h t e = refl
  set_refused (value.boolean b) h t e = refl
  set_refused (number z) h t e = refl
  set_refused fraction h t e = refl
  set_refused (text s) h t e = refl
  set_refused (list xs) h t e = cc
  set_refused (object ms) h t e = refl

  pub array_refused : (v : Value) → is_list v ≡ false → (n : ℕ) (t : Followed) (e : Entry) → takes_in t r (array_entry e n) v ≡ false
  unfolding takes_in
  array_refused null h n t e = refl
  array_refused (value.boolean b) h n t e = refl
  array_refused (number z) h n t e = refl
  array_refused fraction h n t e = refl
  array_refused (text s) h n t e = refl
  array_refused (list xs) h n t e = cc
  array_refused (object ms) h n t e = refl

  pub tuple_refused : (v : Value) → is_list v ≡ false → (es : Entries) (t : Followed) → takes_in t r (tuple_entry es) v ≡ false
  unfolding takes_in
  tuple_refused null h es t = refl
  tuple_refused (value.boolean b) h es t = refl
  tuple_refused (number z) h es t = refl
  tuple_refused fraction h es t = refl
  tuple_refused (text s) h es t = refl
  tuple_refused (list xs) h es t = cc
  tuple_refused (object ms) h es t = refl

  pub map_refused : (v : Value) → is_object v ≡ false → (k e : Entry) (t : Followed) → takes_in t r (map_entry k e) v ≡ false
  unfolding takes_in
  map_refused null h k e t = refl
  map_refused (value.boolean b) h k e t = refl
  map_refused (number z) h k e t = refl
  map_refused fraction h k e t = refl
  map_refused (text s) h k e t = refl
  map_refused (list xs) h k e t = refl
  map_refused (object ms) h k e t = cc

  pub struct_refused : (v : Value) → is_object v ≡ false → (n : List ℕ) (closed : Bool) (fs : Fields) (t : Followed) → takes_in t r (item n (struct_shape closed fs)) v ≡ false
  unfolding takes_in
  struct_refused null h n closed fs t = refl
  struct_refused (value.boolean b) h n closed fs t = refl
  struct_refused (number z) h n closed fs t = refl
  struct_refused fraction h n closed fs t = refl
  struct_refused (text s) h n closed fs t = refl
  struct_refused (list xs) h n closed fs t = refl
  struct_refused (object ms) h n closed fs t = cc

-- ---- enums

pub internal_refused : (v : Value) → is_object v ≡ false → (tag : List ℕ) (t : Followed) (r : Relations) (n : List ℕ) (closed : Bool) (ws : Variants) → takes_in t r (item n (enum_shape closed (internal_tag tag) ws)) v ≡ false
unfolding takes_in
internal_refused null h tag t r n closed ws = refl
internal_refused (value.boolean b) h tag t r n closed ws = refl
internal_refused (number z) h tag t r n closed ws = refl
internal_refused fraction h tag t r n closed ws = refl
internal_refused (text s) h tag t r n closed ws = refl
internal_refused (list xs) h tag t r n closed ws = refl
internal_refused (object ms) h tag t r n closed ws = cc

pub adjacent_refused : (v : Value) → is_object v ≡ false → (tag content : List ℕ) (t : Followed) (r : Relations) (n : List ℕ) (closed : Bool) (ws : Variants) → takes_in t r (item n (enum_shape closed (adjacent_tag tag content) ws)) v ≡ false
unfolding takes_in
adjacent_refused null h tag content t r n closed ws = refl
adjacent_refused (value.boolean b) h tag content t r n closed ws = refl
adjacent_refused (number z) h tag content t r n closed ws = refl
adjacent_refused fraction h tag content t r n closed ws = refl
adjacent_refused (text s) h tag content t r n closed ws = refl
adjacent_refused (list xs) h tag content t r n closed ws = refl
adjacent_refused (object ms) h tag content t r n closed ws = cc
