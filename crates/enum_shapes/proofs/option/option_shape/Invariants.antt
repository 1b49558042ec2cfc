use Rattle.std.proofs.Common.{◌≡◌, ◌++◌, length, filter, not, option_map}
use Rattle.std.specs.Prelude.{option_to_list}
use Rattle.schema_types.specs.View.{schema_view, schemas_view}
use Rattle.enum_defs.specs.Shapes.{is_null_schema}
use Rattle.enum_shapes.proofs.option.option_shape.Given as goal

abbrev pub invariant-loop-schema : goal.invariant-loop-schema
invariant-loop-schema l =
    filter (λ s. not (is_null_schema s)) (schemas_view l.schemas)
    ≡ option_to_list (option_map (λ s. schema_view s.now) l.found) ++ filter (λ s. not (is_null_schema s)) (schemas_view l.left)

abbrev pub decreases-loop-schema : goal.decreases-loop-schema
decreases-loop-schema l = length l.left
