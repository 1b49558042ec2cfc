use Rattle.std.proofs.Common.{◌≡◌, ◌++◌, drop}
use Rattle.value_parts.specs.Choice.{entries_without}
use Rattle.value_parts.specs.Entries.{entries_view}
use Rattle.value_parts.proofs.members.members_without.Given as goal

abbrev pub invariant-loop-at : goal.invariant-loop-at
invariant-loop-at l = entries_view l.others.items ++ entries_without l.name (entries_view (drop l.at l.members)) ≡ entries_without l.name (entries_view l.members)
