use Rattle.std.proofs.Common.{◌≡◌, drop}
use Rattle.value_parts.specs.Choice.{entry_of}
use Rattle.value_parts.specs.Entries.{entries_view}
use Rattle.value_parts.proofs.members.member_named.Given as goal

abbrev pub invariant-loop-at : goal.invariant-loop-at
invariant-loop-at l = entry_of l.name (entries_view l.members) ≡ entry_of l.name (entries_view (drop l.at l.members))
