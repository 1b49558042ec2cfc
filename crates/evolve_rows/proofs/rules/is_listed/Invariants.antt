use Rattle.std.proofs.Common.{◌≡◌, drop, map}
use Rattle.schema_defs.specs.Layer.{is_listed}
use Rattle.json_value.specs.View.{kept_view}
use Rattle.evolve_rows.proofs.rules.is_listed.Given as goal

abbrev pub invariant-loop-other : goal.invariant-loop-other
invariant-loop-other l = is_listed (kept_view l.value) (map kept_view l.values) ≡ is_listed (kept_view l.value) (map kept_view (drop l.other-index l.values))
