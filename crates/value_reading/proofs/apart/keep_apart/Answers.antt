use Rattle.std.proofs.Common.{◌++◌, ◌∙◌, ap, sym}
use Rattle.std.specs.Vec.Iter.{into_iter_items}
use Rattle.typed_defs.specs.Written.{written}
use Rattle.value_models.specs.ContainersView.{containers_in}
use Rattle.value_models.specs.TypeView.{type_view}
use Rattle.value_models.specs.TypedView.{typeds_view}
use Rattle.value_sets.specs.Held.{holds}
use Rattle.value_reading.proofs.KeptApart.{kept_by, begun, kept_turn}
use Rattle.value_reading.proofs.apart.keep_apart.Goals as goal

pub loop-typed-init : goal.loop-typed-init
loop-typed-init c =
    let w = written (containers_in c.args.containers.now) (type_view c.args.ty.now) in
    (λ i. typeds_view (c.new-kept.ensures.items i) ++ kept_by w (holds c.new-seen.result) (typeds_view (c.into_iter-typed-iterator.ensures.into_iter_gives.0 i)))
    ∙ begun w (holds c.new-seen.result) (typeds_view c.args.values.items) c.new-seen.ensures

pub loop-typed-preserved-in-Continue-branch-3 : goal.loop-typed-preserved-in-Continue-branch-3
loop-typed-preserved-in-Continue-branch-3 c =
    let w = written (containers_in c.args.containers.now) (type_view c.args.ty.now) in
    kept_turn w (holds c.loop-typed.seen) (holds c.put.new.seen) c.loop-typed.kept.items c.push_typed.new.values.items c.in-Some.typed c.in_ok-value.value (into_iter_items c.next.new.self)
    c.has.result _ c.in_ok-value.ensures.answer c.has.ensures c.if-not-has.true c.in_ok-push_typed.ensures.answer c.in_ok-put.ensures.answer
    (ap (λ xs. typeds_view c.loop-typed.kept.items ++ kept_by w (holds c.loop-typed.seen) (typeds_view xs)) (sym c.in-Some.ensures.steps.0) ∙ c.loop-typed.invariant)
