use Rattle.std.proofs.Common.{string_bytes}
use Rattle.entry_types.specs.View.{id_view}
use Rattle.entry_space.specs.Seen.{seen}
use Rattle.space_trees.proofs.Placing.{opened_by}
use Rattle.space_trees.proofs.entering.open_item.Goals as goal

pub returns : goal.returns
returns c =
    opened_by c.args.name.now (string_bytes c.in_ok-name.name) (seen c.args.space.now) (seen c.put.new.space) (seen c.fill.new.self) (id_view c.in_ok-id.id) c.in_ok-name.ensures.ok c.in_ok-id.ensures c.fill.ensures
