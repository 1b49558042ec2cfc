use Rattle.std.proofs.Common.{◌≡◌, ◌++◌, drop, map}
use Rattle.convert_defs.specs.Row.{field_parts}
use Rattle.row_findings.specs.View.{field_view, part_view}
use Rattle.row_trees.proofs.parts.push_fields.Given as goal

abbrev pub invariant-loop-field : goal.invariant-loop-field
invariant-loop-field l = map (λ p. part_view p.now) l.parts.items ++ field_parts (map field_view (drop l.field-index l.field-items)) ≡ map (λ p. part_view p.now) l.initial.parts.items ++ field_parts (map field_view l.field-items)
