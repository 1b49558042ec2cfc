use Rattle.std.proofs.Common.{◌≡◌, drop}
use Rattle.serde_json.specs.View.{items_view}
use Rattle.json_value.specs.View.{items_of}
use Rattle.schema_faults.specs.Keywords.{all_type_names}
use Rattle.schema_faults.proofs.kind.all_type_names.Given as goal

abbrev pub invariant-loop-item : goal.invariant-loop-item
invariant-loop-item l = all_type_names (items_of (items_view l.items.items)) ≡ all_type_names (items_of (items_view (drop l.item-index l.items.items)))
