use Rattle.std.proofs.Common.{[], ◌∷◌, ◌++◌, map, ap, ◌∙◌}
use Rattle.entry_defs.specs.Entry.{Entry, the_root}
use Rattle.entry_defs.specs.Table.{ItemEntry}
use Rattle.tree_types.specs.View.{target_entry, tree_view}
use Rattle.convert_trees.proofs.Roots.{both_parts}
use Rattle.convert_trees.proofs.table.with_used_root.Goals as goal

pub returns : goal.returns
returns c =
    let ts = map target_entry c.args.targets.items in
    both_parts (map target_entry c.in_ok-all.all.items) _ (map tree_view c.in_ok-trees.trees.items) _
    (c.in_ok-all.ensures ∙ ap (λ (i : ItemEntry). ts ++ record { target = the_root; led_to = i } ∷ []) c.in_ok-item.ensures.item)
    (c.in_ok-trees.ensures ∙ ap (λ (e : Entry). e ∷ []) c.atom-reference.ensures)
