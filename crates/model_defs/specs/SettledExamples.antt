-- What values settle to, on small tables.
use Rattle.std.specs.Prelude.{◌≡◌, ℕ, List, [], ◌∷◌, false}
use Rattle.json_value.specs.Value.{Value, same, null, fraction, text}
use Rattle.model_defs.specs.Types.{TypeModel, text_type, any_type, option_type, vec_type, set_type, map_type, tuple_type, types}
use Rattle.model_defs.specs.Model.{struct_style, newtype_style, unit_style, stated_default, some_helper, whole_helper, external_tag, untagged, struct_model, enum_model, VariantModel, ContainerModel}
use Rattle.model_defs.specs.Settled.{settled}
use Rattle.model_defs.specs.Examples.{texts, whole, one, two, three, a, b, c, byte, field, defaulted, skipped, helped, also_named, rest, unnamed, item, struct, variant, t, free, tag, content, external, internal, adjacent, bare, no_items, no_members, list_of}

abbrev pub Settles : TypeModel → Value → Value → Type 0
Settles s v w = settled [] free texts s v ≡ w

abbrev pub ItemSettles : ContainerModel → Value → Value → Type 0
ItemSettles m v w = settled (m ∷ []) free texts t v ≡ w

-- with a table of defaults
abbrev pub Fills : List Value → ContainerModel → Value → Value → Type 0
Fills ds m v w = settled (m ∷ []) (record { constraints = []; defaults = ds }) texts t v ≡ w

-- a wrong answer
abbrev pub SettlesOtherwise : ContainerModel → Value → Value → Type 0
SettlesOtherwise m v w = same (settled (m ∷ []) free texts t v) w ≡ false

abbrev pub also_called : List ℕ → VariantModel → VariantModel
also_called n w = record w { deserialize_names = n ∷ w.deserialize_names }

-- scalars, lists and maps
pub record SettledParts : Type 0 where
  pub a_scalar : Settles byte (whole 1) (whole 1)
  pub any_value : Settles any_type (one a fraction) (one a fraction)
  pub null_under_an_option : Settles (option_type byte) null null
  pub a_vec : Settles (vec_type byte) (list_of (whole 1 ∷ whole 1 ∷ [])) (list_of (whole 1 ∷ whole 1 ∷ []))
  pub a_set : Settles (set_type byte) (list_of (whole 2 ∷ whole 1 ∷ whole 2 ∷ [])) (list_of (whole 2 ∷ whole 1 ∷ []))
  pub a_map : Settles (map_type text_type (set_type byte)) (one a (list_of (whole 1 ∷ whole 1 ∷ []))) (one a (list_of (whole 1 ∷ [])))
  pub a_tuple : Settles (tuple_type (types (byte ∷ set_type byte ∷ []))) (list_of (whole 1 ∷ list_of (whole 1 ∷ whole 1 ∷ []) ∷ [])) (list_of (whole 1 ∷ list_of (whole 1 ∷ []) ∷ []))
  pub a_set_by_what_is_written : settled (item (struct (field a byte ∷ [])) ∷ []) free texts (set_type t) (list_of (two a (whole 1) b null ∷ one a (whole 1) ∷ [])) ≡ list_of (one a (whole 1) ∷ [])
  pub names_that_settle_alike : settled (item (enum_model external_tag (also_called b (variant a unit_style []) ∷ [])) ∷ []) free texts (map_type t byte) (two a (whole 1) b (whole 2)) ≡ one a (whole 2)

-- structs
pub record SettledStructs : Type 0 where
  pub what_no_field_names : ItemSettles (item (struct (field a byte ∷ []))) (two a (whole 1) b null) (one a (whole 1))
  pub unless_a_rest_holds_it : ItemSettles (item (struct (field a byte ∷ rest any_type ∷ []))) (two a (whole 1) b null) (two a (whole 1) b null)
  pub the_serialize_name : ItemSettles (item (struct (also_named b (field a byte) ∷ []))) (one b (whole 1)) (one a (whole 1))
  pub in_order_of_names : ItemSettles (item (struct (field b byte ∷ field a byte ∷ []))) (two a (whole 1) b (whole 2)) (two a (whole 1) b (whole 2))
  pub null_is_let_out : ItemSettles (item (struct (skipped (field a (option_type byte)) ∷ []))) (one a null) no_members
  pub empty_is_let_out : ItemSettles (item (struct (skipped (field a (vec_type byte)) ∷ []))) (one a no_items) no_members
  pub an_empty_map_is_let_out : ItemSettles (item (struct (skipped (field a (map_type text_type byte)) ∷ []))) (one a no_members) no_members
  pub not_without_a_condition : ItemSettles (item (struct (field a (vec_type byte) ∷ []))) (one a no_items) (one a no_items)
  pub null_that_some_holds : ItemSettles (item (struct (helped some_helper (skipped (field a (option_type any_type))) ∷ []))) (one a null) (one a null)
  pub null_that_whole_holds : ItemSettles (item (struct (helped whole_helper (field a (option_type byte)) ∷ []))) (one a null) (one a null)
  pub a_missing_option : ItemSettles (item (struct (field a (option_type byte) ∷ []))) no_members (one a null)
  pub a_missing_option_let_out : ItemSettles (item (struct (skipped (field a (option_type byte)) ∷ []))) no_members no_members
  pub a_missing_list : ItemSettles (item (struct (skipped (field a (vec_type byte)) ∷ []))) no_members no_members
  pub a_stated_default : Fills (whole 7 ∷ []) (item (struct (defaulted (stated_default 0) (field a byte) ∷ []))) no_members (one a (whole 7))
  pub not_where_it_is_present : Fills (whole 7 ∷ []) (item (struct (defaulted (stated_default 0) (field a byte) ∷ []))) (one a (whole 1)) (one a (whole 1))
  pub a_default_settles : Fills (list_of (whole 1 ∷ whole 1 ∷ []) ∷ []) (item (struct (defaulted (stated_default 0) (field a (set_type byte)) ∷ []))) no_members (one a (list_of (whole 1 ∷ [])))
  pub a_default_in_a_default : Fills (no_members ∷ whole 7 ∷ []) (item (struct (defaulted (stated_default 0) (field a t) ∷ defaulted (stated_default 1) (field b byte) ∷ []))) no_members (two a (two a no_members b (whole 7)) b (whole 7))
  pub a_newtype : ItemSettles (item (struct_model newtype_style (unnamed (set_type byte) ∷ []))) (list_of (whole 1 ∷ whole 1 ∷ [])) (list_of (whole 1 ∷ []))
  pub no_missing_default : SettlesOtherwise (item (struct (field a (option_type byte) ∷ []))) no_members no_members

-- enums
pub record SettledEnums : Type 0 where
  pub external_unit : ItemSettles (item (enum_model external_tag (also_called b (variant a unit_style []) ∷ []))) (text b) (text a)
  pub external_contents : ItemSettles (item external) (one c (two a (whole 1) b null)) (one c (one a (whole 1)))
  pub internal_unit : ItemSettles (item internal) (two c null tag (text a)) (one tag (text a))
  pub internal_struct : ItemSettles (item internal) (three a null c (whole 1) tag (text b)) (two c (whole 1) tag (text b))
  pub adjacent_unit : ItemSettles (item adjacent) (two a null tag (text a)) (one tag (text a))
  pub adjacent_contents : ItemSettles (item adjacent) (two content (two a null c (whole 1)) tag (text c)) (two content (one c (whole 1)) tag (text c))
  pub untagged_first : ItemSettles (item (enum_model untagged (variant a newtype_style (unnamed byte ∷ []) ∷ variant b newtype_style (unnamed any_type ∷ []) ∷ []))) (whole 1) (whole 1)
  pub untagged_second : ItemSettles (item bare) (two a (whole 1) b null) (one a (whole 1))
  pub untagged_unit : ItemSettles (item (enum_model untagged (variant a unit_style [] ∷ []))) null null
  pub untagged_of_itself : ItemSettles (item (enum_model untagged (variant a newtype_style (unnamed t ∷ []) ∷ variant b struct_style (field a byte ∷ []) ∷ []))) (two a (whole 1) b (whole 2)) (one a (whole 1))
  pub the_tag_stays : SettlesOtherwise (item internal) (two c (whole 1) tag (text b)) (one c (whole 1))
