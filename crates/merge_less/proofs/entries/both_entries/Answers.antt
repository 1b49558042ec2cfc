use Rattle.merge_less.proofs.Naming.{both_left}
use Rattle.merge_less.proofs.entries.both_entries.Goals as goal

pub returns : goal.returns
returns c = λ less. both_left less c.args.first.now c.args.second.now _ _ _ c.in_ok-inner.ensures c.in_ok-names.ensures (c.in_ok-found.ensures less)
