use Rattle.std.proofs.Common.{rules}
use Rattle.tree_parts.proofs.Pushed.{alike_whole}
use Rattle.tree_parts.proofs.lists.alike_places.Goals as goal

pub returns : goal.returns
returns c = alike_whole c.args.places.items c.in_ok-before.before.items c.in_ok-all.all.items c.args.count c.args.tree (search rules) c.in_ok-before.ensures c.in_ok-all.ensures
