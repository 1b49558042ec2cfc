use Rattle.merge_sides.proofs.Made.{tidied_by}
use Rattle.merge_sides.proofs.body.tidied_object.Goals as goal

pub returns : goal.returns
returns c = tidied_by c.args.object c.in_ok-listed.listed _ c.in_ok-listed.ensures c.with_values.ensures
