use Rattle.std.proofs.Common.{◌≡◌, drop, map}
use Rattle.entry_defs.specs.Entry.{Fields}
use Rattle.tree_types.specs.View.{fields_view, parts_of, tree_view}
use Rattle.row_findings.specs.View.{field_view}
use Rattle.row_trees.specs.Build.{after_fields, built_fields}
use Rattle.row_trees.proofs.lists.fields_of.Given as goal

abbrev pub invariant-loop-row : goal.invariant-loop-row
invariant-loop-row l = record {
  fields : (more : Fields) → fields_view (parts_of l.fields.items) (built_fields (map field_view (drop l.row-index l.row-items)) (map tree_view l.trees.items) more) ≡ built_fields (map field_view l.row-items) (map tree_view l.initial.trees.items) more;
  left : after_fields (map field_view (drop l.row-index l.row-items)) (map tree_view l.trees.items) ≡ after_fields (map field_view l.row-items) (map tree_view l.initial.trees.items);
}
