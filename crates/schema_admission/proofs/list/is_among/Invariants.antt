use Rattle.std.proofs.Common.{◌≡◌, drop}
use Rattle.serde_json.specs.View.{items_view}
use Rattle.json_value.specs.Value.{is_among}
use Rattle.json_value.specs.View.{items_of, kept_view}
use Rattle.schema_admission.proofs.list.is_among.Given as goal

abbrev pub invariant-loop-other : goal.invariant-loop-other
invariant-loop-other l = is_among (kept_view l.value) (items_of (items_view l.values)) ≡ is_among (kept_view l.value) (items_of (items_view (drop l.other-index l.values)))
