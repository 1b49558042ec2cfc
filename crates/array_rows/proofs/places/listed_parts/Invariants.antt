use Rattle.std.proofs.Common.{◌≡◌, ◌++◌, ◌+◌, map, length}
use Rattle.schema_defs.specs.Schema.{schemas}
use Rattle.schema_types.specs.View.{schemas_view}
use Rattle.convert_defs.specs.Owners.{listed_parts}
use Rattle.row_findings.specs.View.{part_view}
use Rattle.array_rows.proofs.places.listed_parts.Given as goal

abbrev pub invariant-loop-schema : goal.invariant-loop-schema
invariant-loop-schema l = record {
  whole : listed_parts 0 l.fn.places (schemas (schemas_view l.listed.items)) ≡ map part_view l.parts.items ++ listed_parts l.place l.more (schemas (schemas_view l.left));
  count : l.place + length l.left ≡ length l.listed.items;
}

abbrev pub decreases-loop-schema : goal.decreases-loop-schema
decreases-loop-schema l = length l.left
