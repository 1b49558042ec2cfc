use Rattle.merge_walked.proofs.Maps.{Follows, on_its_walk}
use Rattle.merge_walked.proofs.inside.copy_properties.Given as goal

abbrev pub invariant-loop-name : goal.invariant-loop-name
invariant-loop-name l = Follows (on_its_walk l.walk l.keyword) l.from.entries l.copies.entries l.name-iterator
