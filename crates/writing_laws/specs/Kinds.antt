-- Which kinds of JSON values a type may read: those of its scalars, lists and objects, seen through newtypes, options, boxes and untagged variants (serde.rs/enum-representations).
use Rattle.std.specs.Prelude.{ℕ, zero, suc, ◌&&◌, ◌||◌, not, List, [], ◌∷◌, Bool, true, false, Option, Some, None}
use Rattle.std.specs.List.{list_any, list_all}
use Rattle.json_value.specs.Value as value
use Rattle.json_value.specs.Value.{Value, null, number, fraction, text, list, object}
use Rattle.model_defs.specs.Types.{TypeModel, boolean_type, integer_type, text_type, native_type, any_type, unit_type, option_type, boxed_type, vec_type, set_type, map_type, tuple_type, array_type, item_type, outside_type}
use Rattle.model_defs.specs.Model.{struct_style, newtype_style, VariantModel, TagModel, external_tag, internal_tag, adjacent_tag, untagged, BodyModel, struct_model, enum_model, ContainerModel, container_named}
use Rattle.model_defs.specs.Layer.{Content, one_type, places, named_fields, variant_content, is_unit}
use Rattle.model_defs.specs.Reads.{allowed}

-- the kinds of JSON values (RFC 8259); whole numbers and fractions are of one kind
pub data Kind : Type 0 where
  nulls : Kind
  booleans : Kind
  numbers : Kind
  texts : Kind
  lists : Kind
  objects : Kind

abbrev pub kind_of : Value → Kind
kind_of null = nulls
kind_of (value.boolean b) = booleans
kind_of (number z) = numbers
kind_of fraction = numbers
kind_of (text s) = texts
kind_of (list xs) = lists
kind_of (object ms) = objects

abbrev pub same_kind : Kind → Kind → Bool
same_kind nulls nulls = true
same_kind booleans booleans = true
same_kind numbers numbers = true
same_kind texts texts = true
same_kind lists lists = true
same_kind objects objects = true
same_kind _ _ = false

abbrev pub every_kind : List Kind
every_kind = nulls ∷ booleans ∷ numbers ∷ texts ∷ lists ∷ objects ∷ []

-- ---- whether a value of the kind may be read, where it is known which items may read one

module _ (k : Kind) where
  module _ (item_may : List ℕ → Bool) where
    -- an option reads null beside what it holds
    abbrev pub type_may : TypeModel → Bool
    type_may boolean_type = same_kind k booleans
    type_may (integer_type g) = same_kind k numbers
    type_may text_type = same_kind k texts
    type_may (native_type f) = same_kind k texts
    type_may any_type = true
    type_may unit_type = same_kind k nulls
    type_may (option_type t) = same_kind k nulls || type_may t
    type_may (boxed_type t) = type_may t
    type_may (vec_type t) = same_kind k lists
    type_may (set_type t) = same_kind k lists
    type_may (map_type n t) = same_kind k objects
    type_may (tuple_type ts) = same_kind k lists
    type_may (array_type t n) = same_kind k lists
    type_may (item_type n) = item_may n
    type_may outside_type = false

    abbrev pub content_may : Content → Bool
    content_may (one_type t) = type_may t
    content_may (places ts) = same_kind k lists
    content_may (named_fields closed fs) = same_kind k objects

    -- a text names a unit variant, the one member of an object another; an untagged enum reads what its variants read
    abbrev pub enum_may : Bool → TagModel → List VariantModel → Bool
    enum_may closed external_tag ws = (same_kind k texts && list_any is_unit ws) || (same_kind k objects && list_any (λ w. not (is_unit w)) ws)
    enum_may closed (internal_tag tag) ws = same_kind k objects
    enum_may closed (adjacent_tag tag content) ws = same_kind k objects
    enum_may closed untagged ws = list_any (λ w. content_may (variant_content closed w)) ws

    -- a newtype reads what its field reads
    abbrev pub body_may : Bool → BodyModel → Bool
    body_may closed (struct_model struct_style fs) = same_kind k objects
    body_may closed (struct_model newtype_style (f ∷ [])) = type_may f.field_type
    body_may closed (struct_model _ fs) = false
    body_may closed (enum_model tag ws) = enum_may closed tag ws

    abbrev pub container_may : Option ContainerModel → Bool
    container_may None = false
    container_may (Some m) = body_may m.closed m.body

  -- with so many items that may be entered
  abbrev pub may_within : List ContainerModel → ℕ → List ℕ → Bool
  may_within ms zero n = false
  may_within ms (suc j) n = container_may (may_within ms j) (container_named n ms)

  -- whether the type may read a value of the kind
  abbrev pub may_read : List ContainerModel → TypeModel → Bool
  may_read ms t = type_may (may_within ms (allowed ms)) t

  abbrev pub content_may_read : List ContainerModel → Content → Bool
  content_may_read ms c = content_may (may_within ms (allowed ms)) c

-- ---- no kind in common

abbrev pub are_apart : List ContainerModel → Content → Content → Bool
are_apart ms c d = list_all (λ k. not (content_may_read k ms c && content_may_read k ms d)) every_kind

abbrev pub variants_are_apart : List ContainerModel → Bool → List VariantModel → Bool
variants_are_apart ms closed [] = true
variants_are_apart ms closed (w ∷ ws) = list_all (λ u. are_apart ms (variant_content closed w) (variant_content closed u)) ws && variants_are_apart ms closed ws

abbrev pub body_is_apart : List ContainerModel → Bool → BodyModel → Bool
body_is_apart ms closed (enum_model untagged ws) = variants_are_apart ms closed ws
body_is_apart ms closed _ = true

-- each untagged enum's variants have pairwise disjoint kinds
abbrev pub untagged_are_apart : List ContainerModel → Bool
untagged_are_apart ms = list_all (λ m. body_is_apart ms m.closed m.body) ms
