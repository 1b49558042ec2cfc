use Rattle.std.proofs.Common.{ap}
use Rattle.merge_leaves.specs.Sizes.{list_sizes_view}
use Rattle.schema_defs.specs.Schema.{schemas}
use Rattle.schema_types.specs.View.{schema_view, schemas_view}
use Rattle.merge_lists.specs.Plans.{around_front}
use Rattle.merge_lists.proofs.Fronts.{beside_one}
use Rattle.merge_lists.proofs.places.list_and_one.Goals as goal

pub returns : goal.returns
returns c = λ join ns.
    beside_one join ns (around_front c.args.around) c.args.around.is_array (list_sizes_view c.args.around.sizes) (schemas (schemas_view c.args.list.now.items)) c.placed.result c.new-none.result.items _ _ _ _ c.new-none.ensures.items c.or_true-after.ensures (ap schema_view c.into_inner-after_none.ensures) (c.placed.ensures join ns)
