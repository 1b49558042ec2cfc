-- What typed values are written as, on small tables.
use Rattle.std.specs.Prelude.{◌≡◌, ℕ, List, [], ◌∷◌, pos, false, true}
use Rattle.json_value.specs.Value.{Value, null, text}
use Rattle.model_defs.specs.Types.{TypeModel, text_type, any_type, option_type, boxed_type, vec_type, set_type, map_type, tuple_type, types}
use Rattle.model_defs.specs.Model.{newtype_style, unit_style, struct_style, own_default, some_helper, external_tag, internal_tag, adjacent_tag, untagged, struct_model, enum_model, ContainerModel}
use Rattle.model_defs.specs.Examples.{whole, one, two, a, b, c, byte, free, texts, field, defaulted, skipped, helped, rest, unnamed, item, struct, variant, t, tag, content, no_members, list_of}
use Rattle.typed_defs.specs.Typed as typed
use Rattle.typed_defs.specs.Typed.{Typed, Typeds, TypedPairs, typeds, pairs, no_more, no_pairs, none, some, newtype, unit}
use Rattle.typed_defs.specs.Written.{written}
use Rattle.typed_defs.specs.Fit.{are_models_fit}
use Rattle.typed_defs.specs.IsTyped.{is_of_type}

abbrev pub Writes : TypeModel → Typed → Value → Type 0
Writes s x v = written [] s x ≡ v

abbrev pub ItemWrites : ContainerModel → Typed → Value → Type 0
ItemWrites m x v = written (m ∷ []) t x ≡ v

abbrev pub number : ℕ → Typed
number n = typed.integer (pos n)

abbrev pub list : List Typed → Typed
list xs = typed.list (typeds xs)

abbrev pub of_fields : List Typed → Typed
of_fields xs = typed.struct (typeds xs)

abbrev pub the_variant : ℕ → List Typed → Typed
the_variant i xs = typed.variant i (typeds xs)

pub record WrittenParts : Type 0 where
  pub a_scalar : Writes byte (number 1) (whole 1)
  pub a_text : Writes text_type (typed.text a) (text a)
  pub any_value : Writes any_type (typed.any (one a null)) (one a null)
  pub no_option : Writes (option_type byte) none null
  pub an_option : Writes (option_type byte) (some (number 1)) (whole 1)
  pub a_box : Writes (boxed_type (option_type byte)) (some (number 1)) (whole 1)
  pub a_vec : Writes (vec_type byte) (list (number 1 ∷ number 1 ∷ [])) (list_of (whole 1 ∷ whole 1 ∷ []))
  pub a_map : Writes (map_type text_type byte) (typed.map_of (pairs ((typed.text a, number 1) ∷ []))) (one a (whole 1))
  pub a_tuple : Writes (tuple_type (types (byte ∷ text_type ∷ []))) (list (number 1 ∷ typed.text a ∷ [])) (list_of (whole 1 ∷ text a ∷ []))
  pub another_type : Writes (vec_type byte) (number 1) null

pub record WrittenStructs : Type 0 where
  pub a_field : ItemWrites (item (struct (field a byte ∷ []))) (of_fields (number 1 ∷ [])) (one a (whole 1))
  pub in_order_of_names : ItemWrites (item (struct (field b byte ∷ field a byte ∷ []))) (of_fields (number 2 ∷ number 1 ∷ [])) (two a (whole 1) b (whole 2))
  pub a_rest : ItemWrites (item (struct (field a byte ∷ rest any_type ∷ []))) (of_fields (number 1 ∷ typed.map_of (pairs ((typed.text b, typed.any null) ∷ [])) ∷ [])) (two a (whole 1) b null)
  pub none_is_let_out : ItemWrites (item (struct (skipped (field a (option_type byte)) ∷ []))) (of_fields (none ∷ [])) no_members
  pub empty_is_let_out : ItemWrites (item (struct (skipped (field a (vec_type byte)) ∷ []))) (of_fields (list [] ∷ [])) no_members
  pub an_empty_map_is_let_out : ItemWrites (item (struct (skipped (field a (map_type text_type byte)) ∷ []))) (of_fields (typed.map_of no_pairs ∷ [])) no_members
  pub not_without_a_condition : ItemWrites (item (struct (field a (option_type byte) ∷ []))) (of_fields (none ∷ [])) (one a null)
  pub null_that_some_holds : ItemWrites (item (struct (helped some_helper (skipped (field a (option_type any_type))) ∷ []))) (of_fields (some (typed.any null) ∷ [])) (one a null)
  pub a_newtype : ItemWrites (item (struct_model newtype_style (unnamed byte ∷ []))) (newtype (number 1)) (whole 1)

pub record WrittenEnums : Type 0 where
  pub external_unit : ItemWrites (item (enum_model external_tag (variant a unit_style [] ∷ []))) (the_variant 0 []) (text a)
  pub external_newtype : ItemWrites (item (enum_model external_tag (variant b newtype_style (unnamed byte ∷ []) ∷ []))) (the_variant 0 (number 1 ∷ [])) (one b (whole 1))
  pub external_struct : ItemWrites (item (enum_model external_tag (variant a unit_style [] ∷ variant c struct_style (field a byte ∷ []) ∷ []))) (the_variant 1 (number 1 ∷ [])) (one c (one a (whole 1)))
  pub internal_unit : ItemWrites (item (enum_model (internal_tag tag) (variant a unit_style [] ∷ []))) (the_variant 0 []) (one tag (text a))
  pub internal_struct : ItemWrites (item (enum_model (internal_tag tag) (variant b struct_style (field c byte ∷ []) ∷ []))) (the_variant 0 (number 1 ∷ [])) (two c (whole 1) tag (text b))
  pub internal_newtype : ItemWrites (item (enum_model (internal_tag tag) (variant b newtype_style (unnamed byte ∷ []) ∷ []))) (the_variant 0 (number 1 ∷ [])) null
  pub adjacent_unit : ItemWrites (item (enum_model (adjacent_tag tag content) (variant a unit_style [] ∷ []))) (the_variant 0 []) (one tag (text a))
  pub adjacent_struct : ItemWrites (item (enum_model (adjacent_tag tag content) (variant c struct_style (field a byte ∷ []) ∷ []))) (the_variant 0 (number 1 ∷ [])) (two content (one a (whole 1)) tag (text c))
  pub untagged_second : ItemWrites (item (enum_model untagged (variant a unit_style [] ∷ variant b newtype_style (unnamed byte ∷ []) ∷ []))) (the_variant 1 (number 1 ∷ [])) (whole 1)
  pub untagged_unit : ItemWrites (item (enum_model untagged (variant a unit_style [] ∷ []))) (the_variant 0 []) null
  pub no_such_variant : ItemWrites (item (enum_model untagged [])) (the_variant 0 []) null

-- a skip condition goes with the type's own default
pub record FitModels : Type 0 where
  pub plain : are_models_fit (item (struct (field a byte ∷ [])) ∷ []) ≡ true
  pub both : are_models_fit (item (struct (skipped (field a (option_type byte)) ∷ [])) ∷ []) ≡ true
  pub condition_alone : are_models_fit (item (struct (record (field a (option_type byte)) { skip = true } ∷ [])) ∷ []) ≡ false
  pub default_alone : are_models_fit (item (struct (defaulted own_default (field a (option_type byte)) ∷ [])) ∷ []) ≡ false
  pub never_empty : are_models_fit (item (struct (skipped (field a byte) ∷ [])) ∷ []) ≡ false

-- ---- typed values of a type

abbrev pub Is : TypeModel → Typed → Type 0
Is s x = is_of_type [] free texts s x ≡ true

abbrev pub IsNot : TypeModel → Typed → Type 0
IsNot s x = is_of_type [] free texts s x ≡ false

abbrev pub ItemIs : ContainerModel → Typed → Type 0
ItemIs m x = is_of_type (m ∷ []) free texts t x ≡ true

abbrev pub ItemIsNot : ContainerModel → Typed → Type 0
ItemIsNot m x = is_of_type (m ∷ []) free texts t x ≡ false

pub record ValuesOfTypes : Type 0 where
  pub a_byte : Is byte (number 255)
  pub no_byte : IsNot byte (number 256)
  pub a_text_is_no_byte : IsNot byte (typed.text a)
  pub no_option : Is (option_type byte) none
  pub an_option : Is (option_type byte) (some (number 1))
  pub no_option_of_that : IsNot (option_type byte) (some (typed.text a))
  pub a_box : Is (boxed_type byte) (number 1)
  pub a_set : Is (set_type byte) (list (number 1 ∷ number 2 ∷ []))
  pub no_set : IsNot (set_type byte) (list (number 1 ∷ number 1 ∷ []))
  pub a_map : Is (map_type text_type byte) (typed.map_of (pairs ((typed.text a, number 1) ∷ (typed.text b, number 2) ∷ [])))
  pub out_of_order : IsNot (map_type text_type byte) (typed.map_of (pairs ((typed.text b, number 1) ∷ (typed.text a, number 2) ∷ [])))
  pub a_tuple : Is (tuple_type (types (byte ∷ text_type ∷ []))) (list (number 1 ∷ typed.text a ∷ []))
  pub a_tuple_too_short : IsNot (tuple_type (types (byte ∷ text_type ∷ []))) (list (number 1 ∷ []))

pub record ValuesOfItems : Type 0 where
  pub a_struct : ItemIs (item (struct (field a byte ∷ []))) (of_fields (number 1 ∷ []))
  pub a_field_too_few : ItemIsNot (item (struct (field a byte ∷ field b byte ∷ []))) (of_fields (number 1 ∷ []))
  pub a_newtype : ItemIs (item (struct_model newtype_style (unnamed byte ∷ []))) (newtype (number 1))
  pub a_variant : ItemIs (item (enum_model external_tag (variant a unit_style [] ∷ variant c struct_style (field a byte ∷ []) ∷ []))) (the_variant 1 (number 1 ∷ []))
  pub no_such_variant : ItemIsNot (item (enum_model external_tag (variant a unit_style [] ∷ []))) (the_variant 1 [])
