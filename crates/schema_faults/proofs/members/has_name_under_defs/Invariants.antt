use Rattle.std.proofs.Common.{◌≡◌}
use Rattle.std.specs.Prelude.{codes}
use Rattle.std.specs.List.{list_any}
use Rattle.serde_json.specs.View.{members_view}
use Rattle.json_value.specs.View.{members_of}
use Rattle.schema_faults.specs.Keywords.{is_under, names}
use Rattle.schema_faults.proofs.members.has_name_under_defs.Given as goal

abbrev pub invariant-loop-name : goal.invariant-loop-name
invariant-loop-name l =
    list_any (is_under (codes "$defs") (members_of (members_view l.root.entries))) (names (members_of (members_view l.definitions.entries)))
    ≡ list_any (is_under (codes "$defs") (members_of (members_view l.root.entries))) (names (members_of (members_view l.name-iterator)))
