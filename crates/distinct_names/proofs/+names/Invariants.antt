use Rattle.std.proofs.Common.{drop}
use Rattle.distinct_names.proofs.Walk.{AllDiffer, EachDiffers}
use Rattle.distinct_names.proofs.+names.Given as goal

abbrev pub invariant-names_of_each_differ-loop-value : goal.invariant-names_of_each_differ-loop-value
invariant-names_of_each_differ-loop-value l = AllDiffer (drop l.value-index l.values) → AllDiffer l.values

abbrev pub invariant-names_of_members_differ-loop-value : goal.invariant-names_of_members_differ-loop-value
invariant-names_of_members_differ-loop-value l = EachDiffers l.value-iterator → EachDiffers l.members.entries
