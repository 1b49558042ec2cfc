use Rattle.std.proofs.Common.{map, drop}
use Rattle.std.specs.List.{flat_map}
use Rattle.attr_parts.specs.Diagnostics.{diagnostics}
use Rattle.container_defs.specs.Checks.{skip_de_told}
use Rattle.derive_ast.specs.Views.{field_view, variant_view}
use Rattle.derive_ast.proofs.Loops.{IsTold}
use Rattle.derive_ast.proofs.checks.skips.check_read_fields.Given as goal

abbrev pub invariant-loop-field : goal.invariant-loop-field
invariant-loop-field l = IsTold (diagnostics l.initial.cx) (diagnostics l.cx) (flat_map (skip_de_told (variant_view l.variant)) (map field_view l.fields)) (flat_map (skip_de_told (variant_view l.variant)) (map field_view (drop l.field-index l.fields)))
