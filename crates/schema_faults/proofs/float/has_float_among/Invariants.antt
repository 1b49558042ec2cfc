use Rattle.std.proofs.Common.{◌≡◌, drop, map}
use Rattle.std.specs.List.{list_any}
use Rattle.serde_json.specs.View.{members_view}
use Rattle.json_value.specs.Value.{member_at}
use Rattle.json_value.specs.View.{members_of}
use Rattle.schema_faults.specs.Faults.{if_present, is_float}
use Rattle.schema_faults.specs.Table.{row_of}
use Rattle.schema_faults.proofs.float.has_float_among.Given as goal

abbrev pub invariant-loop-keyword : goal.invariant-loop-keyword
invariant-loop-keyword l =
    list_any (λ r. if_present (is_float r.1) (member_at r.0 (members_of (members_view l.members.entries)))) (map row_of l.rows)
    ≡ list_any (λ r. if_present (is_float r.1) (member_at r.0 (members_of (members_view l.members.entries)))) (map row_of (drop l.keyword-index l.rows))
