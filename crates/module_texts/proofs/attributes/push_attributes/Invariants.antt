use Rattle.std.proofs.Common.{◌≡◌, ◌++◌, drop, map, string_bytes}
use Rattle.syntax_trees.specs.Item.{attribute_view}
use Rattle.module_texts.specs.Attributes.{attribute_lines}
use Rattle.module_texts.proofs.attributes.push_attributes.Given as goal

abbrev pub invariant-loop-attribute : goal.invariant-loop-attribute
invariant-loop-attribute l = string_bytes l.out ++ attribute_lines l.indent (map attribute_view (drop l.attribute-index l.attributes)) ≡ string_bytes l.initial.out ++ attribute_lines l.indent (map attribute_view l.attributes)
