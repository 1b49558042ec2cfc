use Rattle.std.proofs.Common.{refl, ap, ◌∙◌}
use Rattle.schema_defs.specs.Schema.{each_item, by_place, schemas}
use Rattle.schema_types.specs.View.{items_view, maybe_view, schema_view, schemas_view}
use Rattle.merge_leaves.specs.Sizes.{list_sizes_view}
use Rattle.merge_lists.specs.Plans.{around_front}
use Rattle.merge_lists.proofs.Fronts.{at_items, beside_list}
use Rattle.merge_lists.proofs.ItemViews.{one_view, many_view}
use Rattle.merge_lists.proofs.places.list_and.Goals as goal

pub returns-in-One : goal.returns-in-One
returns-in-One c = λ join ns.
    at_items join ns (around_front c.args.around) c.args.around.is_array (list_sizes_view c.args.around.sizes) (by_place (schemas (schemas_view c.args.list.items))) (items_view c.args.others)
    (by_place (schemas (schemas_view c.args.list.items))) (each_item (schema_view c.in-One.other.value)) (maybe_view c.args.rest) (maybe_view c.args.other_rest) c.list_and_one.result
    refl (ap items_view c.in-One.is ∙ one_view c.in-One.other) (c.list_and_one.ensures join ns)

pub returns : goal.returns
returns c = λ join ns.
    at_items join ns (around_front c.args.around) c.args.around.is_array (list_sizes_view c.args.around.sizes) (by_place (schemas (schemas_view c.args.list.items))) (items_view c.args.others)
    (by_place (schemas (schemas_view c.args.list.items))) (by_place (schemas (schemas_view c.in-Many.others.items))) (maybe_view c.args.rest) (maybe_view c.args.other_rest) c.placed.result
    refl (ap items_view c.in-Many.is ∙ many_view c.in-Many.others)
    (beside_list join ns (around_front c.args.around) c.args.around.is_array (list_sizes_view c.args.around.sizes) (schemas (schemas_view c.args.list.items)) (schemas (schemas_view c.in-Many.others.items)) c.placed.result _ _ _ _ c.or_true-after.ensures c.or_true-after_others.ensures (c.placed.ensures join ns))
