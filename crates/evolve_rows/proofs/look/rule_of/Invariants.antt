use Rattle.std.proofs.Common.{◌≡◌, drop, map}
use Rattle.model_defs.specs.Model.{rule_of}
use Rattle.conversion_table.specs.Conversions.{constraint_view}
use Rattle.evolve_rows.proofs.look.rule_of.Given as goal

abbrev pub invariant-loop-constraint : goal.invariant-loop-constraint
invariant-loop-constraint l = rule_of l.name (map constraint_view l.constraints) ≡ rule_of l.name (map constraint_view (drop l.constraint-index l.constraints))
