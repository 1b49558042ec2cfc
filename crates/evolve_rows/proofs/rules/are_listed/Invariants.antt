use Rattle.std.proofs.Common.{◌≡◌, drop, map}
use Rattle.std.specs.List.{list_all}
use Rattle.schema_defs.specs.Layer.{is_listed}
use Rattle.json_value.specs.View.{kept_view}
use Rattle.evolve_rows.proofs.rules.are_listed.Given as goal

abbrev pub invariant-loop-value : goal.invariant-loop-value
invariant-loop-value l = list_all (λ v. is_listed v (map kept_view l.others)) (map kept_view l.values) ≡ list_all (λ v. is_listed v (map kept_view l.others)) (map kept_view (drop l.value-index l.values))
