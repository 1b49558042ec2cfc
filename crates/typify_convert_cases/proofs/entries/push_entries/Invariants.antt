use Rattle.std.proofs.Common.{length}
use Rattle.entry_space.specs.Seen.{entries_left}
use Rattle.typify_convert_cases.proofs.entries.push_entries.Given as goal

abbrev pub decreases-loop-entry : goal.decreases-loop-entry
decreases-loop-entry l = length (entries_left l.entries)
