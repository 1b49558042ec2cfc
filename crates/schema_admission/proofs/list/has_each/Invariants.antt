use Rattle.std.proofs.Common.{◌≡◌, map, string_bytes}
use Rattle.std.specs.List.{list_all}
use Rattle.serde_json.specs.View.{members_view}
use Rattle.json_value.specs.Value.{has_name}
use Rattle.json_value.specs.View.{members_of}
use Rattle.schema_admission.proofs.list.has_each.Given as goal

abbrev pub invariant-loop-name : goal.invariant-loop-name
invariant-loop-name l =
    list_all (λ n. has_name n (members_of (members_view l.members.entries))) (map string_bytes l.required.keys)
    ≡ list_all (λ n. has_name n (members_of (members_view l.members.entries))) (map string_bytes l.name-iterator)
