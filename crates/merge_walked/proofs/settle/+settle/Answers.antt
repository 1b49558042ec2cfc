use Rattle.std.proofs.Common.{◌≡◌, [], ◌∷◌, refl, sym, ap, ◌∙◌, subst, rules}
use Rattle.std.specs.Vec.Iter.{into_iter_items}
use Rattle.schema_types.specs.View.{schemas_view, properties_view}
use Rattle.schema_types.proofs.Entries.{Entry}
use Rattle.merge_walked.proofs.Lists.{settling_begins}
use Rattle.merge_walked.proofs.Maps.{Follows, as_settled, settled_each, begins_map, one_more, ends_map}
use Rattle.merge_walked.proofs.settle.+settle.Goals as goal

pub settle_list-loop-schema-init : goal.settle_list-loop-schema-init
settle_list-loop-schema-init t c =
    let same : into_iter_items c.into_iter-schema-iterator.result ≡ c.args.list.items = search rules in
    settling_begins c.args.walk.now c.args.list.items (into_iter_items c.into_iter-schema-iterator.result) (schemas_view c.in_ok-settled.settled.items) (ap schemas_view c.in_ok-settled.ensures.items) same

pub settle_properties-loop-name-init : goal.settle_properties-loop-name-init
settle_properties-loop-name-init t c =
    begins_map (as_settled c.args.walk.now) c.args.properties.entries c.new-settled.result.entries c.into_iter-name-iterator.result c.new-settled.ensures.empty c.into_iter-name-iterator.ensures.into_iter_gives.0

pub settle_properties-loop-name-preserved : goal.settle_properties-loop-name-preserved
settle_properties-loop-name-preserved t c =
    let l = c.loop-name in
    let e : Entry = (c.in-Some.name, c.in-Some.schema) in
    let g = as_settled c.args.walk.now in
    let steps : l.name-iterator ≡ e ∷ c.next.new.self = search rules in
    subst (λ es. Follows g c.args.properties.entries es c.next.new.self) (sym c.in_ok-insert.ensures.entries)
    (one_more g c.args.properties.entries l.settled.entries l.name-iterator c.next.new.self c.in-Some.name c.in_ok-made.made e l.invariant steps c.into_iter-name-iterator.ensures.into_iter_gives.5 refl c.in_ok-made.ensures)

pub settle_properties-returns : goal.settle_properties-returns
settle_properties-returns t c =
    let left : c.loop-name.name-iterator ≡ [] = search rules in
    ends_map (as_settled c.args.walk.now) c.args.properties.entries c.loop-name.settled.entries c.loop-name.name-iterator c.loop-name.invariant left
    ∙ sym (settled_each c.args.walk.now (properties_view c.args.properties.entries))
