use Rattle.merge_members.proofs.Parts.{all_planned}
use Rattle.merge_members.proofs.sides.both_members.Goals as goal

pub returns : goal.returns
returns c = λ join.
    all_planned join c.args.has_nulls c.args.is_object _ _ _ _ _ _ c.args.first c.args.second c.has_either_patterns-is_dropped.result c.has_either_patterns-is_dropped.ensures
    c.in_ok-needed.ensures c.in_ok-note_absent.ensures c.in_ok-note_both_ways.ensures (λ closed. c.in_ok-entries.ensures join c.args.is_object closed) (c.members_of-members.ensures join)
