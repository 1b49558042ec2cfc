use Rattle.std.proofs.Common.{◌≡◌, ◌++◌, drop, map, string_bytes}
use Rattle.syntax_trees.specs.Item.{variant_view}
use Rattle.module_texts.specs.Fields.{variant_lines}
use Rattle.module_texts.proofs.fields.push_each_variant.Given as goal

abbrev pub invariant-loop-variant : goal.invariant-loop-variant
invariant-loop-variant l = string_bytes l.out ++ variant_lines (map variant_view (drop l.variant-index l.variants)) ≡ string_bytes l.initial.out ++ variant_lines (map variant_view l.variants)
