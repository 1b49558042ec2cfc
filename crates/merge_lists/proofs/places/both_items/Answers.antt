use Rattle.std.proofs.Common.{refl, ap, ◌∙◌}
use Rattle.schema_defs.specs.Schema.{each_item, by_place, schemas}
use Rattle.schema_types.specs.View.{items_view, maybe_view, schema_view, schemas_view}
use Rattle.merge_leaves.specs.Sizes.{list_sizes_view}
use Rattle.merge_lists.specs.Plans.{around_front}
use Rattle.merge_lists.proofs.Fronts.{at_items}
use Rattle.merge_lists.proofs.ItemViews.{one_view, many_view}
use Rattle.merge_lists.proofs.places.both_items.Goals as goal

pub returns-in-One : goal.returns-in-One
returns-in-One c = λ join ns.
    at_items join ns (around_front c.args.around) c.args.around.is_array (list_sizes_view c.args.around.sizes) (items_view c.args.items) (items_view c.args.others)
    (each_item (schema_view c.in-One.one.value)) (items_view c.args.others) (maybe_view c.args.rest) (maybe_view c.args.other_rest) c.one_and.result
    (ap items_view c.in-One.is ∙ one_view c.in-One.one) refl (c.one_and.ensures join (maybe_view c.args.rest) ns)

pub returns-in-Many : goal.returns-in-Many
returns-in-Many c = λ join ns.
    at_items join ns (around_front c.args.around) c.args.around.is_array (list_sizes_view c.args.around.sizes) (items_view c.args.items) (items_view c.args.others)
    (by_place (schemas (schemas_view c.in-Many.list.items))) (items_view c.args.others) (maybe_view c.args.rest) (maybe_view c.args.other_rest) c.list_and.result
    (ap items_view c.in-Many.is ∙ many_view c.in-Many.list) refl (c.list_and.ensures join ns)
