use Rattle.std.proofs.Common.{arith, ◌-◌}
use Rattle.std.proofs.lemmas.Grind.{common_steps}
use Rattle.tree_parts.proofs.Pushed.{last_whole}
use Rattle.tree_parts.proofs.lists.without_rest.Goals as goal

pub returns : goal.returns
returns c =
    last_whole c.args.fields.items c.in_ok-before.before.items c.in_ok-all.all.items c.args.names.now.items c.args.tree (c.len-last.result - 1) c.index.result.now
    (grind (arith, common_steps)) c.index.ensures c.in_ok-before.ensures c.in_ok-all.ensures
