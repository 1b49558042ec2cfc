use Rattle.attr_parts.specs.Diagnostics.{diagnostics}
use Rattle.std.proofs.Common.{map, drop}
use Rattle.container_defs.specs.Checks.{flatten_told}
use Rattle.derive_ast.specs.Views.{field_view}
use Rattle.derive_ast.proofs.Loops.{IsTold}
use Rattle.derive_ast.proofs.checks.flatten.check_fields.Given as goal

abbrev pub invariant-loop-field : goal.invariant-loop-field
invariant-loop-field l = IsTold (diagnostics l.initial.cx) (diagnostics l.cx) (flatten_told l.style (map field_view l.fields)) (flatten_told l.style (map field_view (drop l.field-index l.fields)))
