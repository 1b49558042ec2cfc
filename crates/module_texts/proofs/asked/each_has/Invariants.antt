use Rattle.std.proofs.Common.{◌≡◌, drop, map}
use Rattle.syntax_trees.specs.Item.{field_view}
use Rattle.module_texts.specs.Asked.{each_has}
use Rattle.module_texts.proofs.asked.each_has.Given as goal

abbrev pub invariant-loop-field : goal.invariant-loop-field
invariant-loop-field l = each_has l.asked l.found (map field_view (drop l.field-index l.fields)) ≡ each_has l.asked l.before (map field_view l.fields)
