-- The values of types that hold no other.
use Rattle.std.specs.Prelude.{[], false}
use Rattle.json_value.specs.Value as value
use Rattle.json_value.specs.Value.{Value, null, text, list, object, no_items, no_members}
use Rattle.model_defs.specs.Types.{TypeModel, boolean_type, integer_type, text_type, vec_type, set_type, map_type}
use Rattle.typed_defs.specs.Written.{json_number}
use Rattle.example_defs.specs.Built.{nearest}

abbrev pub leaf_made : TypeModel → Value
leaf_made boolean_type = value.boolean false
leaf_made (integer_type g) = json_number (nearest g)
leaf_made text_type = text []
leaf_made (vec_type t) = list no_items
leaf_made (set_type t) = list no_items
leaf_made (map_type k t) = object no_members
leaf_made _ = null
