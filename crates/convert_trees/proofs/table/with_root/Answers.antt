use Rattle.std.proofs.Common.{map, sym, ap, ◌∙◌}
use Rattle.convert_defs.specs.Convert.{root_name}
use Rattle.tree_types.specs.View.{table_view, target_entry, tree_view}
use Rattle.convert_trees.proofs.Roots.{plain_so, used_so}
use Rattle.convert_trees.proofs.table.with_root.Goals as goal

pub returns-then-refers_to_root : goal.returns-then-refers_to_root
returns-then-refers_to_root c =
    used_so (table_view c.in_ok-used.used) (map target_entry c.args.targets.items) c.root_name-name.result.now _ _ (tree_view c.args.root) c.in_ok-used.ensures
    (sym c.if-refers_to_root.true ∙ c.refers_to_root.ensures) (c.root_name-name.ensures ∙ ap root_name c.root.ensures)

pub returns : goal.returns
returns c =
    plain_so (table_view c.in_ok-plain.plain) (map target_entry c.args.targets.items) _ _ (tree_view c.args.root) c.in_ok-plain.ensures
    (sym c.if-refers_to_root.false ∙ c.refers_to_root.ensures)
