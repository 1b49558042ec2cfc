use Rattle.merge_leaves.proofs.Seen.{none_named}
use Rattle.merge_less.proofs.Putting.{put_some}
use Rattle.merge_less.proofs.left.put.Goals as goal

pub returns-in-Some : goal.returns-in-Some
returns-in-Some c =
    put_some c.args.properties.entries c.is_empty.result c.args.members c.in-Some.members _ (none_named c.is_empty.result c.args.properties.entries c.is_empty.ensures) c.if-is_empty.false c.in-Some.is
    c.with_new_properties.ensures
