use Rattle.std.proofs.Common.{map}
use Rattle.tree_types.specs.View.{tree_view, target_entry, table_view}
use Rattle.tree_names.proofs.Tables.{table_does}
use Rattle.tree_names.proofs.table.named_table.Goals as goal

pub returns : goal.returns
returns c =
    table_does _ _ (table_view c.args.table.now) (map target_entry c.in_ok-named.named.targets.items) (map tree_view c.in_ok-trees.trees.items) c.in_ok-named.ensures.targets c.in_ok-named.ensures.names
    c.in_ok-trees.ensures
