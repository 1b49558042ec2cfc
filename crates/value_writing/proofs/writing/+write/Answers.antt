use Rattle.std.proofs.Common.{arith, refl, ◌∙◌}
use Rattle.value_models.specs.ContainersView.{containers_in}
use Rattle.value_models.specs.ContainerView.{tag_view}
use Rattle.value_models.specs.TypeView.{type_view, types_view}
use Rattle.value_models.specs.TypedView.{typed_view, typeds_view}
use Rattle.value_models.specs.FieldView.{fields_view}
use Rattle.typed_defs.specs.Typed.{typeds}
use Rattle.typed_defs.specs.Written.{fields_of}
use Rattle.json_value.specs.View.{kept_view}
use Rattle.value_writing.specs.Seen.{kept_members}
use Rattle.value_writing.proofs.Lists.{view-Null, each_is, places_are, pairs_put, rest_is}
use Rattle.value_writing.proofs.Loops.{fields_end, rests_end, items_end, chosen_past}
use Rattle.value_writing.proofs.Parts.{by_shape, first_of_none}
use Rattle.value_writing.proofs.writing.+write.Goals as goal

pub put_fields-returns : goal.put_fields-returns
put_fields-returns t c = fields_end (containers_in c.args.containers.now) c.args.fields.now c.args.values.now c.loop-place.place (kept_members c.loop-place.members.entries) _ (omega arith) c.loop-place.invariant

pub put_rests-returns : goal.put_rests-returns
put_rests-returns t c = rests_end (containers_in c.args.containers.now) c.args.fields.now c.args.values.now c.loop-place.place (kept_members c.loop-place.members.entries) _ (omega arith) c.loop-place.invariant

pub write_items-returns : goal.write_items-returns
write_items-returns t c = items_end (containers_in c.args.containers.now) c.args.inner.now c.args.items.now c.loop-item.item-index c.loop-item.values _ (omega arith) c.loop-item.invariant

pub write_each-returns-in_ok-value-in-List : goal.write_each-returns-in_ok-value-in-List
write_each-returns-in_ok-value-in-List t c =
    each_is (containers_in c.args.containers.now) (type_view c.args.inner.now) c.args.typed.now c.in-List.items c.deref.result.now (kept_view c.in_ok-value-in-List.value) c.in-List.is c.deref.ensures.value c.in_ok-value-in-List.ensures

pub write_tuple-returns-in_ok-value-in-List : goal.write_tuple-returns-in_ok-value-in-List
write_tuple-returns-in_ok-value-in-List t c =
    places_are (containers_in c.args.containers.now) (types_view c.args.types.now) c.args.typed.now c.in-List.items c.deref.result.now (kept_view c.in_ok-value-in-List.value) c.in-List.is c.deref.ensures.value c.in_ok-value-in-List.ensures

pub write_map-returns-in_ok-put_pairs-in-Map : goal.write_map-returns-in_ok-put_pairs-in-Map
write_map-returns-in_ok-put_pairs-in-Map t c =
    pairs_put (containers_in c.args.containers.now) (type_view c.args.key.now) (type_view c.args.held.now) c.args.typed.now c.in-Map.pairs c.deref.result.now c.new-members.result.entries c.put_pairs.new.members c.in-Map.is c.deref.ensures.value
    c.new-members.ensures.empty c.in_ok-put_pairs-in-Map.ensures

pub put_rest-returns-in_ok-put_pairs-in-true-Map-Map : goal.put_rest-returns-in_ok-put_pairs-in-true-Map-Map
put_rest-returns-in_ok-put_pairs-in-true-Map-Map t c =
    let a = c.in-true-Map-Map in
    rest_is (containers_in c.args.containers.now) c.args.field.now c.args.value.now a.key a.held a.pairs c.deref-in-true-Map-Map.result.now c.deref-in-true-Map-Map-2.result.now c.deref.result.now
    (kept_members c.args.members.now.entries) (kept_members c.put_pairs.new.members.entries) a.is-0 a.is-1 a.is-2 c.deref-in-true-Map-Map.ensures c.deref-in-true-Map-Map-2.ensures c.deref.ensures.value c.in_ok-put_pairs-in-true-Map-Map.ensures

pub write_chosen-returns : goal.write_chosen-returns
write_chosen-returns t c =
    view-Null ∙ chosen_past (tag_view c.args.tag.now) c.args.variants.now c.args.place (fields_of (containers_in c.args.containers.now) (typeds (typeds_view c.args.values.now))) c.if-place-variants.false

pub write_only-returns : goal.write_only-returns
write_only-returns t c = view-Null ∙ first_of_none (containers_in c.args.containers.now) (fields_view c.args.fields.now) c.args.values.now c.if-values-eq1.false

pub write-returns-in-Nothing : goal.write-returns-in-Nothing
write-returns-in-Nothing t c = by_shape (containers_in c.args.containers.now) (type_view c.args.ty.now) (typed_view c.args.typed.now) _ _ c.in-Nothing.ensures view-Null

pub write-returns-in_ok-value-in-Plain : goal.write-returns-in_ok-value-in-Plain
write-returns-in_ok-value-in-Plain t c =
    by_shape (containers_in c.args.containers.now) (type_view c.args.ty.now) (typed_view c.args.typed.now) _ (kept_view c.in_ok-value-in-Plain.value) c.in-Plain.ensures c.in_ok-value-in-Plain.ensures

pub write-returns-in_ok-value-in-Optional : goal.write-returns-in_ok-value-in-Optional
write-returns-in_ok-value-in-Optional t c =
    by_shape (containers_in c.args.containers.now) (type_view c.args.ty.now) (typed_view c.args.typed.now) _ (kept_view c.in_ok-value-in-Optional.value) c.in-Optional.ensures c.in_ok-value-in-Optional.ensures

pub write-returns-in_ok-value-in-Each : goal.write-returns-in_ok-value-in-Each
write-returns-in_ok-value-in-Each t c =
    by_shape (containers_in c.args.containers.now) (type_view c.args.ty.now) (typed_view c.args.typed.now) _ (kept_view c.in_ok-value-in-Each.value) c.in-Each.ensures c.in_ok-value-in-Each.ensures

pub write-returns-in_ok-value-in-Named : goal.write-returns-in_ok-value-in-Named
write-returns-in_ok-value-in-Named t c =
    by_shape (containers_in c.args.containers.now) (type_view c.args.ty.now) (typed_view c.args.typed.now) _ (kept_view c.in_ok-value-in-Named.value) c.in-Named.ensures c.in_ok-value-in-Named.ensures

pub write-returns-in_ok-value-in-Places : goal.write-returns-in_ok-value-in-Places
write-returns-in_ok-value-in-Places t c =
    by_shape (containers_in c.args.containers.now) (type_view c.args.ty.now) (typed_view c.args.typed.now) _ (kept_view c.in_ok-value-in-Places.value) c.in-Places.ensures c.in_ok-value-in-Places.ensures

pub write-returns-in_ok-value-in-Struct : goal.write-returns-in_ok-value-in-Struct
write-returns-in_ok-value-in-Struct t c =
    by_shape (containers_in c.args.containers.now) (type_view c.args.ty.now) (typed_view c.args.typed.now) _ (kept_view c.in_ok-value-in-Struct.value) c.in-Struct.ensures c.in_ok-value-in-Struct.ensures

pub write-returns-in_ok-value-in-Newtype : goal.write-returns-in_ok-value-in-Newtype
write-returns-in_ok-value-in-Newtype t c =
    by_shape (containers_in c.args.containers.now) (type_view c.args.ty.now) (typed_view c.args.typed.now) _ (kept_view c.in_ok-value-in-Newtype.value) c.in-Newtype.ensures c.in_ok-value-in-Newtype.ensures

pub write-returns-in_ok-value-in-Enum : goal.write-returns-in_ok-value-in-Enum
write-returns-in_ok-value-in-Enum t c =
    by_shape (containers_in c.args.containers.now) (type_view c.args.ty.now) (typed_view c.args.typed.now) _ (kept_view c.in_ok-value-in-Enum.value) c.in-Enum.ensures c.in_ok-value-in-Enum.ensures
