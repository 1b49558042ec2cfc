use Rattle.std.proofs.Common.{◌≡◌, ◌++◌, string_bytes}
use Rattle.serde_json.specs.View.{members_view}
use Rattle.fault_places.specs.Stops.{names_lines}
use Rattle.fault_places.proofs.stops.push_names.Given as goal

abbrev pub invariant-loop-name : goal.invariant-loop-name
invariant-loop-name l =
    string_bytes l.out ++ names_lines (members_view l.name-iterator) ≡ string_bytes l.initial.out ++ names_lines (members_view l.members.entries)
