use Rattle.std.proofs.Common.{◌≡◌, ◌++◌}
use Rattle.serde_json.specs.View.{members_view}
use Rattle.json_value.specs.Value.{entries}
use Rattle.json_value.specs.View.{members_of as members_in}
use Rattle.value_parts.specs.Entries.{entries_view}
use Rattle.value_parts.proofs.members.members_of.Given as goal

abbrev pub invariant-loop-name : goal.invariant-loop-name
invariant-loop-name l = entries_view l.members.items ++ entries (members_in (members_view l.name-iterator)) ≡ entries (members_in (members_view l.object.entries))
