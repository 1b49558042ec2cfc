use Rattle.std.proofs.Common.{map, drop}
use Rattle.std.specs.List.{flat_map}
use Rattle.attr_parts.specs.Diagnostics.{diagnostics}
use Rattle.container_defs.specs.Checks.{variant_skips_told}
use Rattle.derive_ast.specs.Views.{variant_view}
use Rattle.derive_ast.proofs.Loops.{IsTold}
use Rattle.derive_ast.proofs.checks.skips.check_variants.Given as goal

abbrev pub invariant-loop-variant : goal.invariant-loop-variant
invariant-loop-variant l = IsTold (diagnostics l.initial.cx) (diagnostics l.cx) (flat_map variant_skips_told (map variant_view l.variants)) (flat_map variant_skips_told (map variant_view (drop l.variant-index l.variants)))
