use Rattle.std.proofs.Common.{◌≡◌, drop}
use Rattle.serde_json.specs.View.{items_view}
use Rattle.json_value.specs.View.{items_of}
use Rattle.schema_faults.specs.Keywords.{all_texts}
use Rattle.schema_faults.proofs.kind.all_texts.Given as goal

abbrev pub invariant-loop-item : goal.invariant-loop-item
invariant-loop-item l = all_texts (items_of (items_view l.items.items)) ≡ all_texts (items_of (items_view (drop l.item-index l.items.items)))
