-- What is read back on small tables, and for each thing that a table must keep to the smallest value that isn't read back where it doesn't.
use Rattle.std.specs.Prelude.{◌≡◌, ℕ, List, [], ◌∷◌, Bool, true, false, codes}
use Rattle.json_value.specs.Value.{Value, null, text}
use Rattle.model_defs.specs.Types.{TypeModel, text_type, any_type, option_type, boxed_type, set_type, map_type, array_type, tuple_type, types, from_to}
use Rattle.model_defs.specs.Model.{newtype_style, unit_style, struct_style, tuple_style, own_default, stated_default, some_helper, external_tag, internal_tag, adjacent_tag, untagged, FieldModel, VariantModel, struct_model, enum_model, ContainerModel, deny_rule, ConversionsD}
use Rattle.model_defs.specs.Examples.{whole, one, two, three, a, b, c, byte, free, texts, field, defaulted, skipped, helped, also_named, rest, unnamed, item, ruled, alias, called, struct, variant, t, u, tag, content, no_members, list_of}
use Rattle.typed_defs.specs.Typed as typed
use Rattle.typed_defs.specs.Typed.{Typed, typeds, pairs, none, some, newtype}
use Rattle.typed_defs.specs.Written.{written}
use Rattle.typed_defs.specs.Examples.{number, list, of_fields, the_variant}
use Rattle.reading_defs.specs.Reading.{Read, taken, stopped, reading}
use Rattle.writing_laws.specs.Kinds.{Kind, nulls, numbers, texts as texts', lists, objects, may_read, untagged_are_apart}
use Rattle.writing_laws.specs.Tables.{lists_scalars, container_leads_back, IsReadBack}

-- ---- kinds

abbrev pub May : Kind → TypeModel → Bool → Type 0
May k s z = may_read k [] s ≡ z

abbrev pub ItemMay : Kind → ContainerModel → Bool → Type 0
ItemMay k m z = may_read k (m ∷ []) t ≡ z

abbrev pub either : TypeModel → TypeModel → ContainerModel
either s r = item (enum_model untagged (variant a newtype_style (unnamed s ∷ []) ∷ variant b newtype_style (unnamed r ∷ []) ∷ []))

abbrev pub Apart : ContainerModel → Bool → Type 0
Apart m z = untagged_are_apart (m ∷ []) ≡ z

pub record KindsOfTypes : Type 0 where
  pub a_byte : May numbers byte true
  pub a_byte_is_no_text : May texts' byte false
  pub an_option : May nulls (option_type byte) true
  pub of_its_type : May numbers (boxed_type (option_type byte)) true
  pub anything : May objects any_type true
  pub a_map : May objects (map_type text_type byte) true
  pub a_tuple : May lists (tuple_type (types (byte ∷ []))) true
  pub no_item : May nulls t false
  pub a_struct : ItemMay objects (item (struct [])) true
  pub a_newtype : ItemMay numbers (item (struct_model newtype_style (unnamed byte ∷ []))) true
  pub itself : ItemMay numbers (item (struct_model newtype_style (unnamed t ∷ []))) false
  pub a_unit : ItemMay texts' (item (enum_model external_tag (variant a unit_style [] ∷ []))) true
  pub no_contents : ItemMay objects (item (enum_model external_tag (variant a unit_style [] ∷ []))) false
  pub contents : ItemMay objects (item (enum_model external_tag (variant a newtype_style (unnamed byte ∷ []) ∷ []))) true
  pub a_tag : ItemMay objects (item (enum_model (internal_tag tag) (variant a unit_style [] ∷ []))) true
  pub untagged_unit : ItemMay nulls (item (enum_model untagged (variant a unit_style [] ∷ []))) true
  pub untagged_tuple : ItemMay lists (item (enum_model untagged (variant a unit_style [] ∷ variant b tuple_style (unnamed byte ∷ unnamed byte ∷ []) ∷ []))) true
  pub apart : Apart (either byte text_type) true
  pub both_null : Apart (either (option_type byte) (option_type text_type)) false
  pub both_lists : Apart (either (array_type byte 1) (set_type byte)) false

-- ---- read back

-- a table whose writings are read back: T has a field of two names, one that may be let out, and a rest; U is untagged
abbrev pub sample : List ContainerModel
sample =
    item (struct (also_named b (field a byte) ∷ skipped (field c (option_type u)) ∷ rest any_type ∷ []))
    ∷ called (codes "U") (either byte text_type)
    ∷ []

abbrev pub SampleIsReadBack : Type 0
SampleIsReadBack = IsReadBack sample free

-- the value is taken as x, what is written of x is w, and that is read so
abbrev pub Again : List ContainerModel → ConversionsD → TypeModel → Value → Typed → Value → Read Typed → Type 0
Again ms cs s v x w again = (reading ms cs texts s v ≡ taken x) × (written ms s x ≡ w) × (reading ms cs texts s w ≡ again)

abbrev pub ReadBack : ContainerModel → Value → Typed → Value → Type 0
ReadBack m v x w = Again (m ∷ []) free t v x w (taken x)

pub record ValuesReadBack : Type 0 where
  pub a_set : Again [] free (set_type byte) (list_of (whole 1 ∷ whole 1 ∷ [])) (list (number 1 ∷ [])) (list_of (whole 1 ∷ [])) (taken (list (number 1 ∷ [])))
  pub a_map : Again [] free (map_type text_type byte) (two a (whole 1) b (whole 2)) (typed.map_of (pairs ((typed.text a, number 1) ∷ (typed.text b, number 2) ∷ []))) (two a (whole 1) b (whole 2))
      (taken (typed.map_of (pairs ((typed.text a, number 1) ∷ (typed.text b, number 2) ∷ []))))
  pub a_second_name : ReadBack (item (struct (also_named b (field a byte) ∷ []))) (one b (whole 1)) (of_fields (number 1 ∷ [])) (one a (whole 1))
  pub an_option_missing : ReadBack (item (struct (field a (option_type byte) ∷ []))) no_members (of_fields (none ∷ [])) (one a null)
  pub let_out : ReadBack (item (struct (skipped (field a (option_type byte)) ∷ []))) (one a null) (of_fields (none ∷ [])) no_members
  pub null_that_some_holds : ReadBack (item (struct (helped some_helper (skipped (field a (option_type any_type))) ∷ []))) (one a null) (of_fields (some (typed.any null) ∷ [])) (one a null)
  pub a_rest : ReadBack (item (struct (field b byte ∷ rest any_type ∷ []))) (three a null b (whole 1) c null) (of_fields (number 1 ∷ typed.map_of (pairs ((typed.text a, typed.any null) ∷ (typed.text c, typed.any null) ∷ [])) ∷ [])) (three a null b (whole 1) c null)
  pub beside_a_tag : ReadBack (item (enum_model (internal_tag tag) (variant b struct_style (field c byte ∷ []) ∷ []))) (three a null c (whole 1) tag (text b)) (the_variant 0 (number 1 ∷ [])) (two c (whole 1) tag (text b))
  pub by_kind : ReadBack (either byte text_type) (text a) (the_variant 1 (typed.text a ∷ [])) (text a)

-- the field a, written under the name b
abbrev pub written_as_b : FieldModel
written_as_b = record (field a byte) { serialize_name = b }

abbrev pub two_names : List ℕ → List ℕ → VariantModel
two_names n m = record (variant m unit_style []) { deserialize_names = n ∷ m ∷ [] }

abbrev pub defaults : List Value → ConversionsD
defaults vs = record { constraints = []; defaults = vs }

abbrev pub denies : List ℕ → List Value → ConversionsD
denies n vs = record { constraints = record { item = n; rule = deny_rule vs } ∷ []; defaults = [] }

abbrev pub the_pairs : Typed → ℕ → Typed → ℕ → Typed
the_pairs k m l n = typed.map_of (pairs ((k, number m) ∷ (l, number n) ∷ []))

-- ---- what tables must keep to

abbrev pub Leads : ContainerModel → Bool → Type 0
Leads m z = container_leads_back m ≡ z

abbrev pub an_earlier : ContainerModel
an_earlier = item (struct (skipped (also_named b (field a (option_type byte))) ∷ skipped (record (field c (option_type byte)) { serialize_name = b; deserialize_names = b ∷ c ∷ [] }) ∷ []))

abbrev pub named_as_the_tag : ContainerModel
named_as_the_tag = item (enum_model (internal_tag tag) (variant b struct_style (record (field c byte) { serialize_name = tag; deserialize_names = c ∷ tag ∷ [] } ∷ []) ∷ []))

pub record NamesLeadingBack : Type 0 where
  pub a_field : Leads (item (struct (field a byte ∷ field b byte ∷ []))) true
  pub a_second_name : Leads (item (struct (also_named b (field a byte) ∷ []))) true
  pub no_own_name : Leads (item (struct (written_as_b ∷ []))) false
  pub an_earlier_name : Leads an_earlier false
  pub twice : Leads (item (struct (field a byte ∷ field a byte ∷ []))) false
  pub a_rest : Leads (item (struct (field a byte ∷ rest any_type ∷ []))) true
  pub two_rests : Leads (item (struct (rest any_type ∷ rest (set_type byte) ∷ []))) false
  pub some_with_its_own_default : Leads (item (struct (helped some_helper (skipped (field a (option_type byte))) ∷ []))) true
  pub some_with_a_stated_default : Leads (item (struct (helped some_helper (defaulted (stated_default 0) (field a (option_type byte))) ∷ []))) false
  pub a_rule : Leads (ruled byte) true
  pub a_rule_passed_by : Leads (record (alias (option_type byte)) { try_from = true }) false
  pub units : Leads (item (enum_model external_tag (variant a unit_style [] ∷ variant b unit_style [] ∷ []))) true
  pub a_unit_of_two_names : Leads (item (enum_model external_tag (two_names a c ∷ variant b unit_style [] ∷ []))) false
  pub a_tag_of_two_names : Leads (item (enum_model (internal_tag tag) (two_names a c ∷ variant b unit_style [] ∷ []))) true
  pub beside_a_tag : Leads (item (enum_model (internal_tag tag) (variant b struct_style (field c byte ∷ []) ∷ []))) true
  pub as_the_tag : Leads named_as_the_tag false
  pub tag_and_content : Leads (item (enum_model (adjacent_tag tag content) (variant b newtype_style (unnamed byte ∷ []) ∷ []))) true
  pub one_name_for_both : Leads (item (enum_model (adjacent_tag tag tag) (variant b newtype_style (unnamed byte ∷ []) ∷ []))) false
  pub scalars : lists_scalars (deny_rule (null ∷ whole 1 ∷ text a ∷ [])) ≡ true
  pub a_list : lists_scalars (deny_rule (list_of (whole 1 ∷ []) ∷ [])) ≡ false

-- ---- not read back

pub record ValuesNotReadBack : Type 0 where
  -- kinds in common: the first variant takes what is written of the second
  pub common_kinds : Again (either (array_type byte 1) (set_type byte) ∷ []) free t (list_of (whole 1 ∷ whole 1 ∷ [])) (the_variant 1 (list (number 1 ∷ []) ∷ [])) (list_of (whole 1 ∷ [])) (taken (the_variant 0 (list (number 1 ∷ []) ∷ [])))
  -- a name that leads nowhere, and one that leads to an earlier field
  pub no_own_name : Again (item (struct (written_as_b ∷ [])) ∷ []) free t (one a (whole 1)) (of_fields (number 1 ∷ [])) (one b (whole 1)) (stopped [])
  pub an_earlier_name : Again (an_earlier ∷ []) free t (one c (whole 1)) (of_fields (none ∷ some (number 1) ∷ [])) (one b (whole 1)) (taken (of_fields (some (number 1) ∷ none ∷ [])))
  -- of two rests the second's values are written
  pub two_rests : Again (item (struct (rest any_type ∷ rest (set_type byte) ∷ [])) ∷ []) free t (one a (list_of (whole 1 ∷ whole 1 ∷ [])))
      (of_fields (typed.map_of (pairs ((typed.text a, typed.any (list_of (whole 1 ∷ whole 1 ∷ []))) ∷ [])) ∷ typed.map_of (pairs ((typed.text a, list (number 1 ∷ [])) ∷ [])) ∷ []))
      (one a (list_of (whole 1 ∷ []))) (taken (of_fields (typed.map_of (pairs ((typed.text a, typed.any (list_of (whole 1 ∷ []))) ∷ [])) ∷ typed.map_of (pairs ((typed.text a, list (number 1 ∷ [])) ∷ [])) ∷ [])))
  -- a default that is null, which `some` doesn't read
  pub a_null_default : Again (item (struct (helped some_helper (defaulted (stated_default 0) (field a (option_type byte))) ∷ [])) ∷ []) (defaults (null ∷ [])) t no_members (of_fields (none ∷ [])) (one a null) (stopped (a ∷ []))
  -- a missing option passes a rule by
  pub a_rule_passed_by : Again (item (struct (field a u ∷ [])) ∷ called (codes "U") (record (alias (option_type byte)) { try_from = true }) ∷ []) (denies (codes "U") (null ∷ [])) t no_members (of_fields (newtype none ∷ [])) (one a null) (stopped (a ∷ []))
  -- a list of values that are no scalars
  pub a_list_denied : Again (ruled (set_type byte) ∷ []) (denies (codes "T") (list_of (whole 1 ∷ []) ∷ [])) t (list_of (whole 1 ∷ whole 1 ∷ [])) (newtype (list (number 1 ∷ []))) (list_of (whole 1 ∷ [])) (stopped [])
  -- names of a map that are written otherwise than they were
  pub other_names : Again (item (enum_model external_tag (two_names a c ∷ variant b unit_style [] ∷ [])) ∷ []) free (map_type t byte) (two a (whole 1) b (whole 2)) (the_pairs (the_variant 0 []) 1 (the_variant 1 []) 2)
      (two b (whole 2) c (whole 1)) (taken (the_pairs (the_variant 1 []) 2 (the_variant 0 []) 1))
  -- a field under the name of the tag
  pub as_the_tag : Again (named_as_the_tag ∷ []) free t (two c (whole 1) tag (text b)) (the_variant 0 (number 1 ∷ []))
      (one tag (text b)) (stopped [])
  -- one name for tag and content
  pub one_name_for_both : Again (item (enum_model (adjacent_tag tag tag) (record (variant b newtype_style (unnamed any_type ∷ [])) { deserialize_names = a ∷ b ∷ [] } ∷ [])) ∷ []) free t (one tag (text a)) (the_variant 0 (typed.any (text a) ∷ []))
      (one tag (text b)) (taken (the_variant 0 (typed.any (text b) ∷ [])))
  -- an empty list that is let out, and that nothing stands for; a default of a type that has none
  pub let_out_alone : Again (item (struct (record (field a (set_type byte)) { skip = true } ∷ [])) ∷ []) free t (one a (list_of [])) (of_fields (list [] ∷ [])) no_members (stopped [])
  pub no_such_default : Again (item (struct (record (field a byte) { default = own_default } ∷ [])) ∷ []) free t no_members (of_fields (typed.unit ∷ [])) (one a null) (stopped (a ∷ []))
  -- a number that JSON values don't hold
  pub too_great : Again [] free (from_to 0 18446744073709551616) (whole 18446744073709551616) (number 18446744073709551616) null (stopped [])
  -- names that don't rise
  pub out_of_order : Again [] free (map_type text_type byte) (two b (whole 1) a (whole 2)) (the_pairs (typed.text b) 1 (typed.text a) 2) (two a (whole 2) b (whole 1)) (taken (the_pairs (typed.text a) 2 (typed.text b) 1))
