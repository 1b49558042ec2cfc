use Rattle.std.proofs.Common.{map}
use Rattle.entry_types.specs.View.{id_view}
use Rattle.entry_space.specs.Seen.{seen}
use Rattle.tree_types.specs.View.{target_entry, tree_view}
use Rattle.space_trees.proofs.Steps.{placed_by}
use Rattle.space_trees.proofs.table.place_table.Goals as goal

pub returns-clause-placed : goal.returns-clause-placed
returns-clause-placed c =
    let table = c.args.table.now in
    let opened = c.in_ok-opened.opened in
    placed_by (map target_entry table.targets.items) (map tree_view table.trees.items) opened.led (seen opened.space) (seen c.place_trees.new.space, id_view c.in_ok-root.root) c.in_ok-opened.ensures.led
    c.in_ok-opened.ensures.space c.in_ok-root.ensures
