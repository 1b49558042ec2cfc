use Rattle.std.proofs.Common.{◌≡◌, map, drop}
use Rattle.schema_defs.specs.Layer.{is_listed}
use Rattle.json_value.specs.View.{kept_view}
use Rattle.schema_types.proofs.validate.is_among.Given as goal

abbrev pub invariant-loop-other : goal.invariant-loop-other
invariant-loop-other l = is_listed (kept_view l.value) (map kept_view l.values.items) ≡ is_listed (kept_view l.value) (map kept_view (drop l.other-index l.other-items))
