use Rattle.std.proofs.Common.{◌≡◌, drop}
use Rattle.serde_json.specs.View.{items_view}
use Rattle.json_value.specs.Value.{is_among, text}
use Rattle.json_value.specs.View.{items_of}
use Rattle.schema_faults.proofs.float.lists.Given as goal

abbrev pub invariant-loop-item : goal.invariant-loop-item
invariant-loop-item l = is_among (text l.name) (items_of (items_view l.items.items)) ≡ is_among (text l.name) (items_of (items_view (drop l.item-index l.items.items)))
