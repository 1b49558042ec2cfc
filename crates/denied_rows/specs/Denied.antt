-- Schemas under `not` that list values.
use Rattle.std.specs.Prelude.{◌&&◌, List, [], ◌∷◌, Bool, true, false, Option, Some, None, is_none, if◌then◌else◌}
use Rattle.std.specs.List.{list_all}
use Rattle.json_value.specs.Value.{Value}
use Rattle.schema_defs.specs.declared.InstanceType.{InstanceType}
use Rattle.schema_defs.specs.declared.InstanceType.TheVariants.{Text, Boolean, Integer}
use Rattle.schema_defs.specs.Schema.{Plain, object, Same, Lists, Named}
use Rattle.model_defs.specs.Layer.{is_text, is_boolean}
use Rattle.enum_defs.specs.Words.{without_same}
use Rattle.convert_defs.specs.Row.{Finding, plainly, refused_row, bad_not}
use Rattle.convert_defs.specs.Standing.{less_enum}
use Rattle.convert_defs.specs.Scalars.{is_number}
use Rattle.convert_defs.specs.Table.{deny, denied, type_of_listed, under_not, has_one_type, no_others}

abbrev pub is_some_listed : List Value → Bool
is_some_listed [] = false
is_some_listed (v ∷ vs) = true

-- the type of values, where there are any
abbrev pub type_of_values : List Value → Option InstanceType
type_of_values vs = if list_all is_text vs then Some Text else if list_all is_boolean vs then Some Boolean else if list_all is_number vs then Some Integer else None

abbrev pub not_listed : Plain → Same → Lists → Named → List Value → Finding
not_listed p ss ls ns vs =
    if has_one_type p.types then deny (under_not (object (less_enum p) ss ls ns)) vs
    else if is_none p.types && no_others (less_enum p) ls ns && without_same ss then denied (type_of_listed vs) vs
    else plainly (refused_row bad_not)
