use Rattle.std.proofs.Common.{drop}
use Rattle.rising_names.proofs.Walk.{AllRise, EachRises}
use Rattle.rising_names.proofs.+names.Given as goal

abbrev pub invariant-names_of_each_rise-loop-value : goal.invariant-names_of_each_rise-loop-value
invariant-names_of_each_rise-loop-value l = AllRise (drop l.value-index l.values) → AllRise l.values

abbrev pub invariant-names_of_members_rise-loop-value : goal.invariant-names_of_members_rise-loop-value
invariant-names_of_members_rise-loop-value l = EachRises l.value-iterator → EachRises l.members.entries
