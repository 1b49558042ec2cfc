use Rattle.merge_members.proofs.Parts.{framed_seen}
use Rattle.merge_members.proofs.sides.members_of.Goals as goal

pub returns : goal.returns
returns c = λ join.
    framed_seen join c.args.first c.args.second
    (record { rest = c.rest_plan-rest.result; entries = c.args.entries; frame = record { sizes = c.sizes_of-sizes.result; others = c.sizes_of-others.result; is_object = c.args.is_object; is_dropped = c.args.is_dropped } })
    (c.rest_plan-rest.ensures join) c.sizes_of-sizes.ensures c.sizes_of-others.ensures
