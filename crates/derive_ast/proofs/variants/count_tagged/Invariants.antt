use Rattle.std.proofs.Common.{◌≡◌, ◌+◌, ◌≤◌, map, drop}
use Rattle.derive_ast.specs.Tagged.{tagged_number}
use Rattle.derive_ast.specs.Views.{variant_view}
use Rattle.derive_ast.proofs.variants.count_tagged.Given as goal

abbrev pub invariant-loop-variant : goal.invariant-loop-variant
invariant-loop-variant l = (l.number ≤ l.variant-index) × (l.number + tagged_number (map variant_view (drop l.variant-index l.variants)) ≡ tagged_number (map variant_view l.variants))
