use Rattle.std.proofs.Common.{◌≡◌, drop, map}
use Rattle.std.specs.Prelude.{filter}
use Rattle.serde_json.specs.View.{members_view}
use Rattle.json_value.specs.View.{members_of}
use Rattle.schema_faults.specs.Faults.{first, is_broken}
use Rattle.schema_faults.specs.Table.{row_of}
use Rattle.schema_faults.proofs.keyword.first_broken.Given as goal

abbrev pub invariant-loop-keyword : goal.invariant-loop-keyword
invariant-loop-keyword l =
    first (map (λ r. r.0) (filter (is_broken l.at_root (members_of (members_view l.owner.entries))) (map row_of l.rows)))
    ≡ first (map (λ r. r.0) (filter (is_broken l.at_root (members_of (members_view l.owner.entries))) (map row_of (drop l.keyword-index l.rows))))
