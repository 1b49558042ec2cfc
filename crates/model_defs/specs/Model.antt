-- What serde's attributes make of an item: the names, types and representation by which it is read and written (serde.rs/attributes).
use Rattle.std.specs.Prelude.{ℕ, List, [], ◌∷◌, Bool, Option, Some, None, bytes_eq, if◌then◌else◌}
use Rattle.std.specs.List.{list_any}
use Rattle.json_value.specs.Value.{Value}
use Rattle.model_defs.specs.Types.{TypeModel}

-- named fields, unnamed fields other than one, one unnamed field, none
pub data Style : Type 0 where
  struct_style : Style
  tuple_style : Style
  newtype_style : Style
  unit_style : Style

-- what a missing field gets: nothing, its type's own default, or a place in the table of defaults
pub data DefaultModel : Type 0 where
  no_default : DefaultModel
  own_default : DefaultModel
  stated_default : ℕ → DefaultModel

-- how a present field is read: by its type; as what its option holds, so that null is no absence; by its type, but never missing
pub data HelperModel : Type 0 where
  no_helper : HelperModel
  some_helper : HelperModel
  whole_helper : HelperModel

-- the deserialize names come in order; `skip` says that an empty value is not written, and `is_rest` that it takes what no field names
pub record FieldModel : Type 0 where
  pub has_name : Bool
  pub serialize_name : List ℕ
  pub deserialize_names : List (List ℕ)
  pub field_type : TypeModel
  pub default : DefaultModel
  pub helper : HelperModel
  pub skip : Bool
  pub is_rest : Bool

pub record VariantModel : Type 0 where
  pub serialize_name : List ℕ
  pub deserialize_names : List (List ℕ)
  pub style : Style
  pub fields : List FieldModel

-- how a value says which variant it is (serde.rs/enum-representations): the variant's name is the one member's; a member with the
-- name of the tag, beside the fields, or beside the member of the contents; nothing does
pub data TagModel : Type 0 where
  external_tag : TagModel
  internal_tag : List ℕ → TagModel
  adjacent_tag : List ℕ → List ℕ → TagModel
  untagged : TagModel

pub data BodyModel : Type 0 where
  struct_model : Style → List FieldModel → BodyModel
  enum_model : TagModel → List VariantModel → BodyModel

-- the name is the item's identifier; `closed` says that unknown members are refused, `try_from` that the rule of that name binds
pub record ContainerModel : Type 0 where
  pub name : List ℕ
  pub transparent : Bool
  pub try_from : Bool
  pub closed : Bool
  pub body : BodyModel

-- ---- the table of conversions

-- bounds on the characters of a text, patterns that it has, and patterns of which it has one
pub record TextRule : Type 0 where
  pub least : Option ℕ
  pub most : Option ℕ
  pub all : List (List ℕ)
  pub any : List (List ℕ)

pub data RuleD : Type 0 where
  text_rule : TextRule → RuleD
  allow_rule : List Value → RuleD
  deny_rule : List Value → RuleD

pub record ConstraintD : Type 0 where
  pub item : List ℕ
  pub rule : RuleD

pub record ConversionsD : Type 0 where
  pub constraints : List ConstraintD
  pub defaults : List Value

-- ---- look-ups

abbrev pub container_named : List ℕ → List ContainerModel → Option ContainerModel
container_named n [] = None
container_named n (m ∷ ms) = if bytes_eq n m.name then Some m else container_named n ms

abbrev pub rule_of : List ℕ → List ConstraintD → Option RuleD
rule_of n [] = None
rule_of n (c ∷ cs) = if bytes_eq n c.item then Some c.rule else rule_of n cs

-- the first variant that has the name among its deserialize names
abbrev pub variant_named : List ℕ → List VariantModel → Option VariantModel
variant_named n [] = None
variant_named n (w ∷ ws) = if list_any (bytes_eq n) w.deserialize_names then Some w else variant_named n ws
