use Rattle.std.proofs.Common.{◌≡◌, map, drop}
use Rattle.derive_ast.specs.Counts.{count_of, counted}
use Rattle.derive_ast.specs.Views.{field_view}
use Rattle.derive_ast.proofs.checks.transparent.count_fields.Given as goal

abbrev pub invariant-loop-index : goal.invariant-loop-index
invariant-loop-index l = count_of l.derive (map field_view l.fields) ≡ counted l.count l.index (count_of l.derive (map field_view (drop l.index l.fields)))
