use Rattle.std.proofs.Common.{◌++◌, ap, sym, subst, ◌∙◌, reverse, option_map}
use Rattle.std.specs.Prelude.{IfSome, IfNone}
use Rattle.schema_types.specs.View.{schema_view}
use Rattle.schema_types.specs.DocumentView.{document_view}
use Rattle.schema_loops.specs.Way.{numbered, HasWay, LacksNumber}
use Rattle.schema_loops.specs.Round.{places_down}
use Rattle.schema_loops.proofs.Rounds.{lacking_refers, way_on}
use Rattle.schema_loops.proofs.walk.push_way.Goals as goal

pub returns-in_default-2 : goal.returns-in_default-2
returns-in_default-2 c = λ h r lt.
    let s = schema_view c.in-Some.schema.now in
    let m = c.args.numbers.now in
    absurd (lacking_refers (document_view c.args.document.now) m c.args.targets.now c.args.from c.args.to (option_map (λ t. t.now) c.target_at-start.result) s c.target_at-start.ensures (sym c.in-Some.ensures)
    (subst (λ o. IfNone o (LacksNumber (numbered m) c.args.to s)) c.in_default-2.is c.in_ok-way.ensures.none) h r)

pub returns : goal.returns
returns c = λ h r lt.
    let s = schema_view c.in-Some.schema.now in
    let m = c.args.numbers.now in
    let old = c.args.places.now.items in
    let l = c.in_ok-place.place in
    way_on (document_view c.args.document.now) m c.args.targets.now c.args.from c.args.to (option_map (λ t. t.now) c.target_at-start.result) (option_map (λ t. t.now) c.target_at-end.result) s c.in-Some-2.way.items
    old c.push_down.new.places.items c.push.new.self.items l c.in_ok-location_of.field-0 c.target_at-start.ensures (sym c.in-Some.ensures)
    (subst (λ o. IfSome o (λ ks. HasWay (numbered m) c.args.to s ks.items)) c.in-Some-2.is c.in_ok-way.ensures.some)
    c.in_ok-place.ensures (c.in_ok-push_down.ensures ∙ ap (λ ks. old ++ places_down l (reverse ks)) c.deref.ensures.value) c.target_at-end.ensures c.in_ok-location_of.ensures c.in_ok-push.ensures.items h lt
