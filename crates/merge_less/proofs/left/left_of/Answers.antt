use Rattle.std.proofs.Common.{rules}
use Rattle.schema_types.specs.View.{object_view}
use Rattle.merge_steps.proofs.Ending.{maps, memory}
use Rattle.merge_sides.proofs.Going.{off_mapped}
use Rattle.merge_less.specs.Taking.{with_properties}
use Rattle.merge_less.proofs.left.left_of.Goals as goal

pub returns-in_err-properties : goal.returns-in_err-properties
returns-in_err-properties c = off_mapped _ _ _ c.from_residual.ensures.1 c.in_err-properties.ensures

pub returns-in_err-boxed : goal.returns-in_err-boxed
returns-in_err-boxed c = memory _ c.from_residual-in_err-boxed.ensures.1

pub returns : goal.returns
returns c = maps (with_properties (object_view c.args.object)) c.in_ok-properties.properties _ c.in_ok-properties.ensures (search rules)
