use Rattle.std.proofs.Common.{◌≡◌, ◌++◌, drop, map, flat_map, length}
use Rattle.syntax_trees.specs.Item.{variant_view as tree_view}
use Rattle.json_value.specs.View.{kept_view}
use Rattle.entry_types.specs.View.{variant_view}
use Rattle.space_defs.specs.Trees.{variant_trees_at, contents_defaults_at}
use Rattle.emit_types.specs.Asked.{space_view, same_part, leads_by}
use Rattle.emit_items.proofs.items.variants_of.Given as goal

abbrev pub invariant-loop-from : goal.invariant-loop-from
invariant-loop-from l = record {
  trees : map tree_view l.trees.items ++ variant_trees_at (space_view l.entries) (same_part l.parts) (leads_by l.leads) l.owner (length l.defaults.items) (map variant_view (drop l.from-index l.variants))
      ≡ variant_trees_at (space_view l.entries) (same_part l.parts) (leads_by l.leads) l.owner (length l.initial.defaults.items) (map variant_view l.variants);
  defaults : map kept_view l.defaults.items ++ flat_map (λ x. contents_defaults_at x.contents) (map variant_view (drop l.from-index l.variants))
      ≡ map kept_view l.initial.defaults.items ++ flat_map (λ x. contents_defaults_at x.contents) (map variant_view l.variants);
}
