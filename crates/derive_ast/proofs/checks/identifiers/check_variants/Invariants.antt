use Rattle.std.proofs.Common.{map, drop}
use Rattle.attr_parts.specs.Diagnostics.{diagnostics}
use Rattle.derive_attr.specs.ContainerView.{container_view as attrs_view}
use Rattle.container_defs.specs.Checks.{identifier_told}
use Rattle.derive_ast.specs.Views.{variant_view}
use Rattle.derive_ast.proofs.Loops.{IsTold}
use Rattle.derive_ast.proofs.checks.identifiers.check_variants.Given as goal

abbrev pub invariant-loop-index : goal.invariant-loop-index
invariant-loop-index l = IsTold (diagnostics l.initial.cx) (diagnostics l.cx) (identifier_told (attrs_view l.attrs) (map variant_view l.variants)) (identifier_told (attrs_view l.attrs) (map variant_view (drop l.index l.variants)))
