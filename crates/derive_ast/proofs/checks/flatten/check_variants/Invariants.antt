use Rattle.std.proofs.Common.{List, map, drop}
use Rattle.std.specs.List.{flat_map}
use Rattle.attr_parts.specs.Diagnostics.{diagnostics, DiagnosticD}
use Rattle.container_defs.specs.Checks.{flatten_told}
use Rattle.container_defs.specs.Container.{ReadVariant}
use Rattle.derive_ast.specs.Views.{variant_view}
use Rattle.derive_ast.proofs.Loops.{IsTold}
use Rattle.derive_ast.proofs.checks.flatten.check_variants.Given as goal

abbrev of_each : ReadVariant → List DiagnosticD
of_each v = flatten_told v.style v.fields

abbrev pub invariant-loop-variant : goal.invariant-loop-variant
invariant-loop-variant l = IsTold (diagnostics l.initial.cx) (diagnostics l.cx) (flat_map of_each (map variant_view l.variants)) (flat_map of_each (map variant_view (drop l.variant-index l.variants)))
