-- What the reader of values makes of a container: names, types, representation, and what it does where members are missing.
use Rattle.std.specs.Prelude.{ℕ, ◌&&◌, List, [], ◌∷◌, map, Bool, true, false, Option, Some, None, option_map, is_some, bytes_eq, nat_eq, codes, if◌then◌else◌}
use Rattle.std.specs.List.{filter_map}
use Rattle.token_trees.specs.Token.{Name}
use Rattle.syntax_trees.specs.Syntax.{MemberD, named, unnamed, ExprPathD, expr_path, no_qself, path, Segments, end_segments, more_segments, has_no_arguments, segment_name}
use Rattle.syntax_trees.specs.Item.{ItemD}
use Rattle.attr_parts.specs.declared.derive.Derive.{Derive}
use Rattle.attr_parts.specs.Names.{MultiNameD}
use Rattle.attr_parts.specs.Values.{DefaultD, no_default, own_default, path_default, TagD, external, internal, adjacent, untagged}
use Rattle.attr_defs.specs.Renames.{Meaning}
use Rattle.attr_defs.specs.Texts.{Lexing}
use Rattle.schema_defs.specs.Location.{place}
use Rattle.type_spellings.specs.Types.{type_of, spells, number_of}
use Rattle.model_defs.specs.Model as model
use Rattle.model_defs.specs.Model.{struct_style, tuple_style, newtype_style, unit_style, DefaultModel, stated_default, HelperModel, no_helper, some_helper, whole_helper, FieldModel, VariantModel, TagModel, external_tag, internal_tag, adjacent_tag, BodyModel, struct_model, enum_model, ContainerModel}
use Rattle.container_defs.specs.declared.style.Style.{Style}
use Rattle.container_defs.specs.declared.style.Style.TheVariants.{Struct, Tuple, Newtype, Unit as NoFields}
use Rattle.container_defs.specs.Container.{ReadField, ReadVariant, ReadData, read_enum, read_struct, ReadContainer}
use Rattle.container_defs.specs.Model.{model_of}

-- ---- the functions that the reader knows, by their paths

-- a path of those names, without a first `::`
abbrev pub is_local : List (List ℕ) → ExprPathD → Bool
is_local ns (expr_path no_qself (path false ss)) = spells ss ns
is_local ns _ = false

-- the same with it
abbrev pub is_rooted : List (List ℕ) → ExprPathD → Bool
is_rooted ns (expr_path no_qself (path true ss)) = spells ss ns
is_rooted ns _ = false

-- `typify_present::some` and `typify_present::whole`
abbrev pub reads_some : ExprPathD → Bool
reads_some p = is_local (codes "typify_present" ∷ codes "some" ∷ []) p

abbrev pub reads_whole : ExprPathD → Bool
reads_whole p = is_local (codes "typify_present" ∷ codes "whole" ∷ []) p

abbrev pub helper_of : Option ExprPathD → HelperModel
helper_of None = no_helper
helper_of (Some p) = if reads_some p then some_helper else if reads_whole p then whole_helper else no_helper

-- the number of `typify_defaults::d<n>`, written without zeros in front
abbrev pub written_so : List ℕ → Option ℕ → Option ℕ
written_so ds None = None
written_so ds (Some n) = if bytes_eq (place n) ds then Some n else None

abbrev pub place_named : List ℕ → Option ℕ
place_named [] = None
place_named (c ∷ ds) = if nat_eq c 100 then written_so ds (number_of ds) else None

abbrev pub place_in : Segments → Option ℕ
place_in (more_segments s (more_segments t end_segments)) =
    if has_no_arguments s && bytes_eq (segment_name s) (codes "typify_defaults") && has_no_arguments t then place_named (segment_name t) else None
place_in _ = None

abbrev pub default_place : ExprPathD → Option ℕ
default_place (expr_path no_qself (path false ss)) = place_in ss
default_place _ = None

abbrev pub default_at : Option ℕ → DefaultModel
default_at None = model.no_default
default_at (Some n) = stated_default n

abbrev pub default_model : DefaultD → DefaultModel
default_model no_default = model.no_default
default_model own_default = model.own_default
default_model (path_default p) = default_at (default_place p)

-- ---- fields and variants

abbrev pub has_name : MemberD → Bool
has_name (named n) = true
has_name (unnamed index) = false

abbrev pub read_names : MultiNameD → List (List ℕ)
read_names m = map (λ n. n.text) m.aliases

abbrev pub field_model : ReadField → FieldModel
field_model f = record {
  has_name = has_name f.member;
  serialize_name = f.attrs.name.serialize.text;
  deserialize_names = read_names f.attrs.name;
  field_type = type_of f.ty;
  default = default_model f.attrs.default;
  helper = helper_of f.attrs.deserialize_with;
  skip = is_some f.attrs.skip_serializing_if;
  is_rest = f.attrs.flatten;
}

abbrev pub style_model : Style → model.Style
style_model Struct = struct_style
style_model Tuple = tuple_style
style_model Newtype = newtype_style
style_model NoFields = unit_style

abbrev pub variant_model : ReadVariant → VariantModel
variant_model v = record {
  serialize_name = v.attrs.name.serialize.text;
  deserialize_names = read_names v.attrs.name;
  style = style_model v.style;
  fields = map field_model v.fields;
}

-- ---- containers

abbrev pub tag_model : TagD → TagModel
tag_model external = external_tag
tag_model (internal t) = internal_tag t
tag_model (adjacent t k) = adjacent_tag t k
tag_model untagged = model.untagged

abbrev pub body_model : TagD → ReadData → BodyModel
body_model tag (read_enum vs) = enum_model (tag_model tag) (map variant_model vs)
body_model tag (read_struct s fs) = struct_model (style_model s) (map field_model fs)

-- `try_from` says that the rule of the item's name binds
abbrev pub reader_model : ReadContainer → ContainerModel
reader_model c = record {
  name = c.name.text;
  transparent = c.attrs.transparent;
  try_from = is_some c.attrs.type_try_from;
  closed = c.attrs.deny_unknown_fields;
  body = body_model c.attrs.tag c.body;
}

-- what the reader makes of an item, unless it is a union
abbrev pub item_model : Lexing → Meaning → Meaning → Name → ItemD → Derive → Option ContainerModel
item_model lexing variant_name field_name private i derive = option_map reader_model (model_of lexing variant_name field_name private i derive)

-- what it makes of items, unions left out
abbrev pub item_models : Lexing → Meaning → Meaning → Name → Derive → List ItemD → List ContainerModel
item_models lexing variant_name field_name private derive is = filter_map (λ i. item_model lexing variant_name field_name private i derive) is
