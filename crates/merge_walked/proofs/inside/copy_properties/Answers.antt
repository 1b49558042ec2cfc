use Rattle.std.proofs.Common.{◌≡◌, [], string_bytes, sym, ap, ◌∙◌, subst, rules}
use Rattle.schema_types.specs.View.{schema_view, properties_view}
use Rattle.schema_types.proofs.Entries.{Entry}
use Rattle.merge_walked.proofs.Maps.{Follows, on_its_walk, inside_each, begins_map, one_more, ends_map}
use Rattle.merge_walked.proofs.inside.copy_properties.Goals as goal

pub loop-name-init : goal.loop-name-init
loop-name-init c = begins_map _ _ _ _ (search rules) (search rules)

pub loop-name-preserved-in_ok-insert : goal.loop-name-preserved-in_ok-insert
loop-name-preserved-in_ok-insert c =
    let l = c.loop-name in
    let e : Entry = (c.in-Some.name.now, c.in-Some.schema.now) in
    let g = on_its_walk c.args.walk.now c.args.keyword.now in
    let named : string_bytes c.in_ok-key.key ≡ string_bytes e.0 = search rules in
    let passed : c.deref-in-loop-name.result.now ≡ string_bytes e.0 = search rules in
    let value : schema_view c.in_ok-copy.copy ≡ g (string_bytes e.0) (schema_view e.1) = c.in_ok-copy.ensures ∙ c.in_ok-side.ensures ∙ ap (λ n. g n (schema_view e.1)) passed in
    subst (λ es. Follows g c.args.from.now.entries es c.next.new.self) (sym c.in_ok-insert.ensures.entries)
    (one_more g c.args.from.now.entries l.copies.entries l.name-iterator c.next.new.self c.in_ok-key.key c.in_ok-copy.copy e l.invariant c.in-Some.ensures.steps c.iter-name-items.ensures.ordered named value)

pub loop-name-preserved : goal.loop-name-preserved
loop-name-preserved c =
    let l = c.loop-name in
    let e : Entry = (c.in-Some.name.now, c.in-Some.schema.now) in
    let g = on_its_walk c.args.walk.now c.args.keyword.now in
    let named : string_bytes c.in_ok-key.key ≡ string_bytes e.0 = search rules in
    let passed : c.deref-in-loop-name.result.now ≡ string_bytes e.0 = search rules in
    let value : schema_view c.in_ok-copy.copy ≡ g (string_bytes e.0) (schema_view e.1) = c.in_ok-copy.ensures ∙ c.in_ok-side.ensures ∙ ap (λ n. g n (schema_view e.1)) passed in
    subst (λ es. Follows g c.args.from.now.entries es c.next.new.self) (sym c.in_ok-insert.ensures.entries)
    (one_more g c.args.from.now.entries l.copies.entries l.name-iterator c.next.new.self c.in_ok-key.key c.in_ok-copy.copy e l.invariant c.in-Some.ensures.steps c.iter-name-items.ensures.ordered named value)

pub returns : goal.returns
returns c =
    let g = on_its_walk c.args.walk.now c.args.keyword.now in
    let left : c.loop-name.name-iterator ≡ [] = search rules in
    ends_map g c.args.from.now.entries c.loop-name.copies.entries c.loop-name.name-iterator c.loop-name.invariant left ∙ sym (inside_each c.args.walk.now c.args.keyword.now (properties_view c.args.from.now.entries))
