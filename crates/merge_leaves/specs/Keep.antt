-- Which listed values are kept.
use Rattle.std.specs.Prelude.{◌&&◌, not, Bool, map, option_map}
use Rattle.json_value.specs.Value.{Value, same}
use Rattle.schema_defs.specs.Layer.{if_given, is_listed, types_agree}
use Rattle.json_value.specs.View.{kept_view}
use Rattle.schema_types.specs.View.{types_view}
use Rattle.merge_leaves.specs.declared.kept.Keep.{Keep}
use Rattle.merge_leaves.specs.declared.kept.Keep.TheVariants.{Equal, Listed, Unlisted, Allowed}

abbrev pub keeps : Keep → Value → Bool
keeps (Equal c) v = same (kept_view c.now) v
keeps (Listed ws) v = is_listed v (map kept_view ws.now.items)
keeps (Unlisted ws) v = not (is_listed v (map kept_view ws.now.items))
keeps (Allowed types c) v = if_given (types_agree v) (option_map types_view types.now) && if_given (same v) (option_map kept_view c.now)
