-- Worked examples of what the reader of values makes of items.
use Rattle.std.specs.Prelude.{◌≡◌, ◌++◌, List, [], ◌∷◌, true, false, Option, Some, None, codes}
use Prim.Native.String.{String}
use Rattle.token_trees.specs.Token.{Tok}
use Rattle.syntax_trees.specs.Syntax.{TyD}
use Rattle.syntax_trees.specs.Item.{FieldD, named_fields, unnamed_fields, unit_fields, union_body, ItemD}
use Rattle.attr_parts.specs.declared.derive.Derive.TheVariants.{Serialize, Deserialize}
use Rattle.model_defs.specs.Types.{TypeModel, from_to, option_type, vec_type, map_type, text_type, item_type}
use Rattle.model_defs.specs.Model.{struct_style, tuple_style, newtype_style, unit_style, no_default, own_default, stated_default, no_helper, some_helper, whole_helper, FieldModel, VariantModel, TagModel, external_tag, internal_tag, adjacent_tag, untagged, struct_model, enum_model, ContainerModel}
use Rattle.container_defs.specs.Reader.{item_model}
use Rattle.container_defs.specs.Told.{itself, always_z, private}
use Rattle.container_defs.specs.Written.{at, w, eq, str, comma, says, flag, ty, ty_of, field, nameless, variant, item, names, places, nothing, variants, words}

abbrev pub model : ItemD → Option ContainerModel
model i = item_model words itself itself private i Deserialize

abbrev byte : TypeModel
byte = from_to 0 255

-- a required field of the name
abbrev pub required : String → FieldModel
required x = record { has_name = true; serialize_name = codes x; deserialize_names = codes x ∷ []; field_type = byte; default = no_default; helper = no_helper; skip = false; is_rest = false }

abbrev pub struct_of : List FieldModel → ContainerModel
struct_of fs = record { name = codes "T"; transparent = false; try_from = false; closed = false; body = struct_model struct_style fs }

abbrev pub newtype_of : ContainerModel
newtype_of = record (struct_of []) { body = struct_model newtype_style (record (required "0") { has_name = false } ∷ []) }

abbrev pub text : TyD
text = ty_of "std" "string" "String" []

abbrev pub typed : TyD → FieldD → FieldD
typed t f = record f { ty = t }

abbrev pub option_of : TyD → TyD
option_of t = ty_of "std" "option" "Option" (t ∷ [])

abbrev pub vec_of : TyD → TyD
vec_of t = ty_of "std" "vec" "Vec" (t ∷ [])

abbrev pub map_of : TyD → TyD → TyD
map_of k t = ty_of "std" "collections" "HashMap" (k ∷ t ∷ [])

abbrev pub and_says : List Tok → String → String → List Tok
and_says ts x y = ts ++ comma 20 ∷ w x 21 ∷ eq 22 ∷ str y 23 ∷ []

-- an optional field of any type: `default`, read by `some`, and not written where there is none
abbrev pub optional_attributes : List Tok
optional_attributes = and_says (and_says (flag "default") "deserialize_with" "typify_present::some") "skip_serializing_if" "::std::option::Option::is_none"

abbrev pub one : FieldD → ItemD
one f = item (names (f ∷ [])) []

pub record FieldsRead : Type 0 where
  pub required_field : model (one (field "a" [])) ≡ Some (struct_of (required "a" ∷ []))
  pub renamed : model (one (field "a" (says "rename" "b"))) ≡ Some (struct_of (required "b" ∷ []))
  pub with_alias : model (one (field "a" (says "alias" "b"))) ≡ Some (struct_of (record (required "a") { deserialize_names = codes "a" ∷ codes "b" ∷ [] } ∷ []))
  pub stated : model (one (field "a" (says "default" "typify_defaults::d12"))) ≡ Some (struct_of (record (required "a") { default = stated_default 12 } ∷ []))
  pub first_stated : model (one (field "a" (says "default" "typify_defaults::d0"))) ≡ Some (struct_of (record (required "a") { default = stated_default 0 } ∷ []))
  pub no_place : model (one (field "a" (says "default" "typify_defaults::d01"))) ≡ Some (struct_of (required "a" ∷ []))
  pub other_path : model (one (field "a" (says "default" "f"))) ≡ Some (struct_of (required "a" ∷ []))
  pub defaulted : model (one (field "a" (flag "default"))) ≡ Some (struct_of (record (required "a") { default = own_default } ∷ []))
  pub whole : model (one (field "a" (says "deserialize_with" "typify_present::whole"))) ≡ Some (struct_of (record (required "a") { helper = whole_helper } ∷ []))
  pub optional :
      model (one (typed (option_of (ty "u8")) (field "a" optional_attributes)))
      ≡ Some (struct_of (record (required "a") { field_type = option_type byte; default = own_default; helper = some_helper; skip = true } ∷ []))
  pub rest :
      model (one (typed (map_of text (ty "u8")) (field "a" (flag "flatten"))))
      ≡ Some (struct_of (record (required "a") { field_type = map_type text_type byte; is_rest = true } ∷ []))
  pub of_an_item : model (one (typed (vec_of (ty "A")) (field "a" []))) ≡ Some (struct_of (record (required "a") { field_type = vec_type (item_type (codes "A")) } ∷ []))

pub record ContainersRead : Type 0 where
  pub closed : model (item (names []) (flag "deny_unknown_fields")) ≡ Some (record (struct_of []) { closed = true })
  pub newtype : model (item (places (nameless [] ∷ [])) []) ≡ Some newtype_of
  pub clear : model (item (places (nameless [] ∷ [])) (flag "transparent")) ≡ Some (record newtype_of { transparent = true })
  pub converted : model (item (places (nameless [] ∷ [])) (says "try_from" "u8")) ≡ Some (record newtype_of { try_from = true })
  pub without_fields : model (item nothing []) ≡ Some (record (struct_of []) { body = struct_model unit_style [] })
  pub no_union : model (item (union_body [] (at 93)) []) ≡ None
  pub by_rule : item_model words always_z always_z private (item (names (field "a" [] ∷ [])) (says "rename_all" "lowercase")) Serialize ≡ Some (struct_of (required "z" ∷ []))

abbrev tag_alone : List Tok
tag_alone = says "tag" "t"

abbrev enum_of : TagModel → List VariantModel → ContainerModel
enum_of tag ws = record (struct_of []) { body = enum_model tag ws }

abbrev unit_named : String → VariantModel
unit_named x = record { serialize_name = codes x; deserialize_names = codes x ∷ []; style = unit_style; fields = [] }

abbrev four : ItemD
four = item
    (variants (variant "A" (named_fields (field "a" [] ∷ [])) [] ∷ variant "B" (unnamed_fields (nameless [] ∷ nameless [] ∷ [])) [] ∷ variant "C" (unnamed_fields (nameless [] ∷ [])) (says "rename" "c") ∷ variant "D" unit_fields [] ∷ []))
    []

pub record EnumsRead : Type 0 where
  pub external : model (item (variants []) []) ≡ Some (enum_of external_tag [])
  pub internal : model (item (variants (variant "A" unit_fields [] ∷ [])) tag_alone) ≡ Some (enum_of (internal_tag (codes "t")) (unit_named "A" ∷ []))
  pub adjacent : model (item (variants []) (and_says tag_alone "content" "c")) ≡ Some (enum_of (adjacent_tag (codes "t") (codes "c")) [])
  pub alone : model (item (variants []) (flag "untagged")) ≡ Some (enum_of untagged [])
  pub styles :
      model four
      ≡ Some (enum_of external_tag (
      record (unit_named "A") { style = struct_style; fields = required "a" ∷ [] }
      ∷ record (unit_named "B") { style = tuple_style; fields = record (required "0") { has_name = false } ∷ record (required "1") { has_name = false } ∷ [] }
      ∷ record (unit_named "c") { style = newtype_style; fields = record (required "0") { has_name = false } ∷ [] }
      ∷ unit_named "D"
      ∷ []
      ))
