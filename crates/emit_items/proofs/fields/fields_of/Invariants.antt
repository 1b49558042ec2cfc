use Rattle.std.proofs.Common.{◌≡◌, ◌++◌, drop, map, length}
use Rattle.syntax_trees.specs.Item.{field_view as tree_view}
use Rattle.json_value.specs.View.{kept_view}
use Rattle.entry_types.specs.View.{field_view}
use Rattle.space_defs.specs.Trees.{field_trees_at, field_defaults_at}
use Rattle.emit_types.specs.Asked.{space_view, same_part, leads_by}
use Rattle.emit_items.proofs.fields.fields_of.Given as goal

abbrev pub invariant-loop-field : goal.invariant-loop-field
invariant-loop-field l = record {
  trees : map tree_view l.trees.items ++ field_trees_at (space_view l.entries) (same_part l.parts) (leads_by l.leads) l.owner (length l.defaults.items) (map field_view (drop l.field-index l.fields))
      ≡ field_trees_at (space_view l.entries) (same_part l.parts) (leads_by l.leads) l.owner (length l.initial.defaults.items) (map field_view l.fields);
  defaults : map kept_view l.defaults.items ++ field_defaults_at (map field_view (drop l.field-index l.fields)) ≡ map kept_view l.initial.defaults.items ++ field_defaults_at (map field_view l.fields);
}
