use Rattle.std.proofs.Common.{None, map, drop}
use Rattle.attr_parts.specs.Diagnostics.{diagnostics}
use Rattle.container_defs.specs.Checks.{default_order_from}
use Rattle.derive_ast.specs.Views.{field_view}
use Rattle.derive_ast.proofs.Loops.{IsTold}
use Rattle.derive_ast.proofs.checks.tuple_defaults.check_fields.Given as goal

abbrev pub invariant-loop-index : goal.invariant-loop-index
invariant-loop-index l = IsTold (diagnostics l.initial.cx) (diagnostics l.cx) (default_order_from None 0 (map field_view l.fields)) (default_order_from l.first l.index (map field_view (drop l.index l.fields)))
