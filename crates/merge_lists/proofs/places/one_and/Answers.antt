use Rattle.std.proofs.Common.{refl, ap, ◌∙◌}
use Rattle.schema_defs.specs.Schema.{each_item, by_place, schemas}
use Rattle.schema_types.specs.View.{items_view, maybe_view, schema_view, schemas_view}
use Rattle.merge_leaves.specs.Sizes.{list_sizes_view}
use Rattle.merge_lists.specs.Plans.{around_front}
use Rattle.merge_lists.proofs.Fronts.{at_items}
use Rattle.merge_lists.proofs.ItemViews.{many_view}
use Rattle.merge_lists.proofs.places.one_and.Goals as goal

pub returns-in-Many : goal.returns-in-Many
returns-in-Many c = λ join x ns.
    at_items join ns (around_front c.args.around) c.args.around.is_array (list_sizes_view c.args.around.sizes) (each_item (schema_view c.args.one.value)) (items_view c.args.others)
    (each_item (schema_view c.args.one.value)) (by_place (schemas (schemas_view c.in-Many.list.items))) x (maybe_view c.args.other_rest) c.list_and_one.result
    refl (ap items_view c.in-Many.is ∙ many_view c.in-Many.list) (c.list_and_one.ensures join ns)
