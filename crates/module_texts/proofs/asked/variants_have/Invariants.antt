use Rattle.std.proofs.Common.{◌≡◌, drop, map}
use Rattle.syntax_trees.specs.Item.{variant_view}
use Rattle.module_texts.specs.Asked.{variants_have}
use Rattle.module_texts.proofs.asked.variants_have.Given as goal

abbrev pub invariant-loop-variant : goal.invariant-loop-variant
invariant-loop-variant l = variants_have l.asked l.found (map variant_view (drop l.variant-index l.variants)) ≡ variants_have l.asked l.before (map variant_view l.variants)
