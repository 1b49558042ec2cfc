use Rattle.std.proofs.Common.{◌≡◌, ◌+◌, ◌≤◌, map, drop, filter, length}
use Rattle.enum_defs.specs.Shapes.{is_null_schema}
use Rattle.member_rows.specs.Members.{member_view}
use Rattle.member_rows.proofs.nulls.has_one_null.Given as goal

abbrev pub invariant-loop-member : goal.invariant-loop-member
invariant-loop-member l = record {
  counted : length (filter (λ m. is_null_schema m.1) (map member_view l.members)) ≡ l.count + length (filter (λ m. is_null_schema m.1) (map member_view (drop l.member-index l.members)));
  within : l.count ≤ l.member-index;
}
