use Rattle.std.proofs.Common.{◌≡◌, length}
use Rattle.serde_json.specs.View.{items_view}
use Rattle.json_value.specs.View.{items_of}
use Rattle.schema_defs.specs.Layer.{all_distinct}
use Rattle.schema_admission.proofs.list.all_distinct.Given as goal

abbrev pub invariant-loop-first : goal.invariant-loop-first
invariant-loop-first l = all_distinct (items_of (items_view l.values.items)) ≡ all_distinct (items_of (items_view l.rest))

abbrev pub decreases-loop-first : goal.decreases-loop-first
decreases-loop-first l = length l.rest
