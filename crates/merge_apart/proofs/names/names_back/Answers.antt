use Rattle.std.proofs.Common.{sym}
use Rattle.merge_apart.proofs.NameSets.{turn_back}
use Rattle.merge_apart.proofs.names.names_back.Goals as goal

pub loop-name-preserved-in-Some-take : goal.loop-name-preserved-in-Some-take
loop-name-preserved-in-Some-take c =
    let l = c.loop-name in
    let taken = c.in-Some-take.ensures in
    let put = c.in_ok-insert.ensures in
    turn_back _ c.as_str.result.now l.aside.keys c.take.new.self.keys l.body.keys c.insert.new.self.keys c.in-Some-take.key taken.keys (sym taken.variant) taken.same_key put.keys put.ordered l.invariant
