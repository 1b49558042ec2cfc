use Rattle.std.proofs.Common.{◌≡◌, drop}
use Rattle.std.specs.Prelude.{bytes_eq}
use Rattle.conversion_table.specs.Conversions.{constraint_view}
use Rattle.container_defs.specs.Checks.{is_one}
use Rattle.item_causes.proofs.Filtered.{one_left, left_of}
use Rattle.item_causes.proofs.rules.has_one.Given as goal

abbrev pub invariant-loop-constraint : goal.invariant-loop-constraint
invariant-loop-constraint l = one_left l.found (left_of constraint_view (λ k. bytes_eq k.item l.name) (drop l.constraint-index l.constraints)) ≡ is_one (left_of constraint_view (λ k. bytes_eq k.item l.name) l.constraints)
