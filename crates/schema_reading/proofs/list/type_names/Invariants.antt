use Rattle.std.proofs.Common.{◌≡◌, drop}
use Rattle.serde_json.specs.View.{items_view}
use Rattle.json_value.specs.View.{items_of}
use Rattle.schema_defs.specs.Read.{types_in}
use Rattle.schema_reading.proofs.Lists.{onto}
use Rattle.schema_reading.proofs.list.type_names.Given as goal

abbrev pub invariant-loop-item : goal.invariant-loop-item
invariant-loop-item l = types_in (items_of (items_view l.items.items)) ≡ onto l.names.items (types_in (items_of (items_view (drop l.item-index l.items.items))))
