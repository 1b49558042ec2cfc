use Rattle.std.proofs.Common.{map}
use Rattle.tree_types.specs.View.{target_entry}
use Rattle.typify_convert.proofs.Planned.{targets_plan}
use Rattle.typify_convert.proofs.plan.plan_of.Goals as goal

pub returns : goal.returns
returns c =
    targets_plan _ (map target_entry c.args.targets.now.items) (map target_entry c.in_ok-named.named.targets.items) c.in_ok-named.ensures.targets c.in_ok-named.ensures.names c.in_ok-opened.ensures.space
    c.in_ok-opened.ensures.led
