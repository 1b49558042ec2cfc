use Rattle.std.proofs.Common.{◌≡◌, ◌++◌, drop}
use Rattle.schema_types.specs.View.{schemas_view}
use Rattle.merge_defs.specs.Members.{negations}
use Rattle.merge_branches.proofs.joint.push_negations.Given as goal

abbrev pub invariant-loop-schema : goal.invariant-loop-schema
invariant-loop-schema l = schemas_view l.all.items ++ negations (schemas_view (drop l.schema-index l.schemas)) ≡ schemas_view l.fn.all.items ++ negations (schemas_view l.schemas)
