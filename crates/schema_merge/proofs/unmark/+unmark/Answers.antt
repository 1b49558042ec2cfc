use Rattle.std.proofs.Common.{◌≡◌, [], ◌∷◌, refl, sym, ap, ◌∙◌, subst, rules}
use Rattle.std.specs.Vec.Iter.{into_iter_items}
use Rattle.schema_defs.specs.Mapped.{mapped}
use Rattle.schema_types.specs.View.{object_view, schemas_view, properties_view}
use Rattle.schema_types.proofs.Entries.{Entry}
use Rattle.merge_walks.specs.Told.{unmark}
use Rattle.merge_walked.proofs.Maps.{Follows, begins_map, one_more, ends_map}
use Rattle.schema_merge.proofs.Unmarking.{list_begins, mapped_each, object_without, without_mark}
use Rattle.schema_merge.proofs.unmark.+unmark.Goals as goal

pub unmark_list-loop-schema-init : goal.unmark_list-loop-schema-init
unmark_list-loop-schema-init t c =
    let same : into_iter_items c.into_iter-schema-iterator.result ≡ c.args.list.items = search rules in
    list_begins c.args.list.items (into_iter_items c.into_iter-schema-iterator.result) (schemas_view c.in_ok-found.found.items) (ap schemas_view c.in_ok-found.ensures.items) same

pub unmark_properties-loop-name-init : goal.unmark_properties-loop-name-init
unmark_properties-loop-name-init t c =
    begins_map without_mark c.args.properties.entries c.new-found.result.entries c.into_iter-name-iterator.result c.new-found.ensures.empty c.into_iter-name-iterator.ensures.into_iter_gives.0

pub unmark_properties-loop-name-preserved : goal.unmark_properties-loop-name-preserved
unmark_properties-loop-name-preserved t c =
    let l = c.loop-name in
    let e : Entry = (c.in-Some.name, c.in-Some.schema) in
    let steps : l.name-iterator ≡ e ∷ c.next.new.self = search rules in
    subst (λ es. Follows without_mark c.args.properties.entries es c.next.new.self) (sym c.in_ok-insert.ensures.entries)
    (one_more without_mark c.args.properties.entries l.found.entries l.name-iterator c.next.new.self c.in-Some.name c.in_ok-made.made e l.invariant steps c.into_iter-name-iterator.ensures.into_iter_gives.5 refl c.in_ok-made.ensures)

pub unmark_properties-returns : goal.unmark_properties-returns
unmark_properties-returns t c =
    let left : c.loop-name.name-iterator ≡ [] = search rules in
    ends_map without_mark c.args.properties.entries c.loop-name.found.entries c.loop-name.name-iterator c.loop-name.invariant left
    ∙ sym (mapped_each (properties_view c.args.properties.entries))

pub unmark_object-returns : goal.unmark_object-returns
unmark_object-returns t c =
    c.in_ok-boxed.ensures
    ∙ object_without c.into_inner-title.result c.in_ok-subschemas.subschemas c.in_ok-array.array c.in_ok-members.members c.bare_walk-walk.result c.in_ok-subschemas.ensures c.in_ok-array.ensures c.in_ok-members.ensures c.bare_walk-walk.ensures
    ∙ ap (λ o. mapped unmark (object_view o)) c.into_inner-title.ensures
