use Rattle.std.proofs.Common.{◌≡◌, Some, btree_map_len}
use Rattle.schema_defs.specs.Read.{with_definitions}
use Rattle.schema_types.specs.View.{properties_view}
use Rattle.schema_types.specs.DocumentView.{definitions_view}
use Rattle.schema_reading.proofs.reading.joined.Given as goal

abbrev pub invariant-loop-entry : goal.invariant-loop-entry
invariant-loop-entry l =
    with_definitions l.fn.under_defs (properties_view l.fn.schemas.entries) (Some (definitions_view l.fn.definitions.entries))
    ≡ with_definitions l.under_defs (properties_view l.schemas.entries) (Some (definitions_view l.definitions.entries))

abbrev pub decreases-loop-entry : goal.decreases-loop-entry
decreases-loop-entry l = btree_map_len l.schemas
