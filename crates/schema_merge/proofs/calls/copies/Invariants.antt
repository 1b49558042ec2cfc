use Rattle.std.proofs.Common.{◌≡◌, take}
use Rattle.schema_types.specs.View.{schemas_view}
use Rattle.schema_merge.proofs.calls.copies.Given as goal

abbrev pub invariant-loop-schema : goal.invariant-loop-schema
invariant-loop-schema l = schemas_view l.copies.items ≡ schemas_view (take l.schema-index l.list)
