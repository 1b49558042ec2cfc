use Rattle.merge_less.proofs.Rowing.{values_there, values_stop}
use Rattle.merge_less.proofs.meeting.values_left.Goals as goal

pub returns-in_err-values : goal.returns-in_err-values
returns-in_err-values c = λ ns. values_stop c.args.object c.args.taken.now ns _ _ c.from_residual.ensures.1 c.in_err-values.ensures

pub returns : goal.returns
returns c = λ ns. values_there c.args.object c.args.taken.now ns c.in_ok-values.values _ c.in_ok-values.ensures c.with_values.ensures
