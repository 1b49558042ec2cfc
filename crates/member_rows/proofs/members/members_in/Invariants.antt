use Rattle.std.proofs.Common.{◌≡◌, ◌++◌, ◌+◌, map, length}
use Rattle.schema_defs.specs.Schema.{schemas}
use Rattle.schema_types.specs.View.{schemas_view}
use Rattle.convert_defs.specs.Shapes.{members_from}
use Rattle.row_findings.specs.View.{keyword_view}
use Rattle.member_rows.specs.Members.{member_view}
use Rattle.member_rows.proofs.members.members_in.Given as goal

abbrev pub invariant-loop-schema : goal.invariant-loop-schema
invariant-loop-schema l = record {
  whole : members_from (keyword_view l.keyword) 0 (schemas (schemas_view l.list.items)) ≡ map member_view l.members.items ++ members_from (keyword_view l.keyword) l.index (schemas (schemas_view l.left));
  count : l.index + length l.left ≡ length l.list.items;
}

abbrev pub decreases-loop-schema : goal.decreases-loop-schema
decreases-loop-schema l = length l.left
