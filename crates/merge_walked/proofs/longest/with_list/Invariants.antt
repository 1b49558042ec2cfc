use Rattle.std.proofs.Common.{◌≡◌, drop}
use Rattle.schema_defs.specs.Schema.{schemas}
use Rattle.schema_types.specs.View.{schemas_view}
use Rattle.merge_walks.specs.Made.{walks_of_all}
use Rattle.merge_walked.specs.Longest.{longest_so}
use Rattle.merge_walked.proofs.longest.with_list.Given as goal

abbrev pub invariant-loop-schema : goal.invariant-loop-schema
invariant-loop-schema l =
    longest_so l.fn.found (walks_of_all (schemas (schemas_view l.list.items))) ≡ longest_so l.longest (walks_of_all (schemas (schemas_view (drop l.schema-index l.list.items))))
