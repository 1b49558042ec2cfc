use Rattle.std.proofs.Common.{ap, option_map}
use Rattle.schema_types.specs.View.{items_view, maybe_view, places_of}
use Rattle.merge_leaves.specs.Sizes.{list_sizes_view}
use Rattle.merge_lists.specs.Plans.{around_front}
use Rattle.merge_lists.proofs.Fronts.{at_items}
use Rattle.merge_lists.proofs.places.two_places.Goals as goal

pub returns-in-Some-Some : goal.returns-in-Some-Some
returns-in-Some-Some c = λ join ns.
    at_items join ns (around_front c.args.around) c.args.around.is_array (list_sizes_view c.args.around.sizes) (places_of (option_map items_view c.args.items)) (places_of (option_map items_view c.args.others))
    (items_view c.in-Some-Some.items) (items_view c.in-Some-Some.others) (maybe_view c.args.rest) (maybe_view c.args.other_rest) c.both_items.result
    (ap (λ o. places_of (option_map items_view o)) c.in-Some-Some.is-0) (ap (λ o. places_of (option_map items_view o)) c.in-Some-Some.is-1) (c.both_items.ensures join ns)
