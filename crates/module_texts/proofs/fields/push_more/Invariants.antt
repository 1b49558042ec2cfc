use Rattle.std.proofs.Common.{◌≡◌, ◌++◌, drop, map, string_bytes}
use Rattle.syntax_trees.specs.Item.{field_view}
use Rattle.module_texts.specs.Fields.{more_places}
use Rattle.module_texts.proofs.fields.push_more.Given as goal

abbrev pub invariant-loop-field : goal.invariant-loop-field
invariant-loop-field l = string_bytes l.out ++ more_places l.visibility (map field_view (drop l.field-index l.fields)) ≡ string_bytes l.initial.out ++ more_places l.visibility (map field_view l.fields)
