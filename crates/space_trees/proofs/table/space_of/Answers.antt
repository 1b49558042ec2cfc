use Rattle.entry_types.specs.View.{id_view}
use Rattle.entry_space.specs.Seen.{seen}
use Rattle.tree_types.specs.View.{table_view}
use Rattle.space_trees.proofs.Tables.{table_holds, root_stands, table_emitted}
use Rattle.space_trees.proofs.table.space_of.Goals as goal

pub returns-clause-holds : goal.returns-clause-holds
returns-clause-holds c =
    let p = c.in_ok-planned.planned in table_holds (table_view c.args.table.now) (seen p.space) (id_view p.root) c.requires.sound c.requires.formed c.in_ok-planned.ensures.placed

pub returns-clause-root : goal.returns-clause-root
returns-clause-root c =
    let p = c.in_ok-planned.planned in root_stands (table_view c.args.table.now) (seen p.space) (id_view p.root) c.requires.sound c.requires.formed c.in_ok-planned.ensures.placed

pub returns-clause-emitted : goal.returns-clause-emitted
returns-clause-emitted c =
    let p = c.in_ok-planned.planned in
    table_emitted (table_view c.args.table.now) (seen p.space) (id_view p.root) c.requires.sound c.requires.formed c.in_ok-planned.ensures.placed c.spaces_emit_tables.ensures
