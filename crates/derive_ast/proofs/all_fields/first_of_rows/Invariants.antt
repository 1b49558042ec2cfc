use Rattle.std.proofs.Common.{◌≡◌, drop}
use Rattle.derive_ast.specs.InOrder.{rows_from}
use Rattle.derive_ast.proofs.all_fields.first_of_rows.Given as goal

abbrev pub invariant-loop-at : goal.invariant-loop-at
invariant-loop-at l = rows_from l.field (drop l.variant l.variants) ≡ rows_from l.start (drop l.at l.variants)
