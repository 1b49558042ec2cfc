use Rattle.std.proofs.Common.{◌≡◌, take, map}
use Rattle.json_value.specs.View.{kept_view}
use Rattle.schema_reading.proofs.list.copies.Given as goal

abbrev pub invariant-loop-value : goal.invariant-loop-value
invariant-loop-value l = map kept_view l.copies.items ≡ map kept_view (take l.value-index l.value-items)
