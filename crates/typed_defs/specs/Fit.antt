-- Models within the forms that are read: where a missing field, an empty one and one that is let out are one and the same typed value.
use Rattle.std.specs.Prelude.{◌&&◌, ◌||◌, not, List, Bool, true, false}
use Rattle.std.specs.List.{list_all}
use Rattle.model_defs.specs.Types.{TypeModel, option_type, vec_type, set_type, map_type, text_type}
use Rattle.model_defs.specs.Model.{DefaultModel, no_default, own_default, stated_default, HelperModel, no_helper, some_helper, whole_helper, FieldModel, VariantModel, BodyModel, struct_model, enum_model, ContainerModel}

abbrev pub is_option : TypeModel → Bool
is_option (option_type t) = true
is_option _ = false

-- an option, a list, a set or a map
abbrev pub may_be_empty : TypeModel → Bool
may_be_empty (option_type t) = true
may_be_empty (vec_type t) = true
may_be_empty (set_type t) = true
may_be_empty (map_type k t) = true
may_be_empty _ = false

-- a rest is a map whose names are texts
abbrev pub is_rest_type : TypeModel → Bool
is_rest_type (map_type text_type t) = true
is_rest_type _ = false

-- its type's own default goes with a skip condition, and both with a type that may be empty
abbrev pub is_default_fit : DefaultModel → FieldModel → Bool
is_default_fit own_default f = f.skip && may_be_empty f.field_type
is_default_fit no_default f = not f.skip
is_default_fit (stated_default n) f = not f.skip

abbrev pub has_default : DefaultModel → Bool
has_default no_default = false
has_default own_default = true
has_default (stated_default n) = true

-- `some` stands at an option alone, and `whole` beside no default
abbrev pub is_helper_fit : HelperModel → FieldModel → Bool
is_helper_fit no_helper f = true
is_helper_fit some_helper f = is_option f.field_type
is_helper_fit whole_helper f = not (has_default f.default)

abbrev pub has_no_helper : HelperModel → Bool
has_no_helper no_helper = true
has_no_helper some_helper = false
has_no_helper whole_helper = false

abbrev pub is_field_fit : FieldModel → Bool
is_field_fit f = is_default_fit f.default f && is_helper_fit f.helper f && (not f.is_rest || (is_rest_type f.field_type && has_no_helper f.helper))

abbrev pub are_fields_fit : List FieldModel → Bool
are_fields_fit fs = list_all is_field_fit fs

abbrev pub is_variant_fit : VariantModel → Bool
is_variant_fit w = are_fields_fit w.fields

abbrev pub is_body_fit : BodyModel → Bool
is_body_fit (struct_model style fs) = are_fields_fit fs
is_body_fit (enum_model tag ws) = list_all is_variant_fit ws

abbrev pub are_models_fit : List ContainerModel → Bool
are_models_fit ms = list_all (λ m. is_body_fit m.body) ms
