use Rattle.merge_walked.proofs.Subschemas.{longest_among}
use Rattle.merge_walked.proofs.longest.among.Goals as goal

pub returns : goal.returns
returns c =
    longest_among c.args.subschemas.now c.in_ok-all.all c.in_ok-any.any c.in_ok-one.one c.in_ok-none.none c.in_ok-all.ensures c.in_ok-any.ensures c.in_ok-one.ensures c.in_ok-none.ensures
