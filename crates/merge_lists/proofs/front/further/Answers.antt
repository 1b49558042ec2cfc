use Rattle.merge_leaves.specs.Sizes.{list_sizes_view}
use Rattle.schema_types.specs.View.{maybe_view}
use Rattle.merge_lists.specs.Plans.{around_front, maybe_array}
use Rattle.merge_lists.proofs.Endings.{goes_further, stops_further}
use Rattle.merge_lists.proofs.front.further.Goals as goal

pub returns-in_err-rest : goal.returns-in_err-rest
returns-in_err-rest c = λ join.
    stops_further maybe_view maybe_array (around_front c.args.around) _ _ _ _ _ _ _ c.from_residual.ensures.1 (c.in_err-rest.ensures join c.args.around.is_array (list_sizes_view c.args.around.sizes))

pub returns : goal.returns
returns c = λ join.
    goes_further maybe_view maybe_array (around_front c.args.around) _ _ _ _ _ _ _ _ (c.in_ok-rest.ensures join c.args.around.is_array (list_sizes_view c.args.around.sizes)) c.by_place.ensures c.front.ensures
