use Rattle.std.proofs.Common.{◌≡◌, map, length}
use Rattle.schema_types.specs.View.{schemas_view}
use Rattle.enum_defs.specs.Shapes.{all_cases}
use Rattle.enum_shapes.specs.View.{case_view}
use Rattle.enum_shapes.proofs.Gathered.{cases_after}
use Rattle.enum_shapes.proofs.external.cases_of_all.Given as goal

abbrev pub invariant-loop-schema : goal.invariant-loop-schema
invariant-loop-schema l = all_cases (schemas_view l.schemas) ≡ cases_after (map case_view l.cases.items) (schemas_view l.left)

abbrev pub decreases-loop-schema : goal.decreases-loop-schema
decreases-loop-schema l = length l.left
