use Rattle.std.proofs.Common.{None, option_map, Vec, Global, map, ap, ◌∙◌, arith}
use Rattle.entry_types.specs.declared.entry.TypeId.{TypeId}
use Rattle.entry_types.specs.View.{id_view}
use Rattle.space_trees.proofs.PartSteps.{waits_some, waits_none}
use Rattle.space_trees.proofs.finish.resolve_ids.Goals.{in-Some+in_ok-push_times, in_default}
use Rattle.space_trees.proofs.finish.resolve_ids.Goals as goal

pub loop-id-preserved : goal.loop-id-preserved
loop-id-preserved c =
    let seen = λ (v : Vec TypeId Global). map id_view v.items in
    elim c.match-id.branch [
      | in-Some+in_ok-push_times w ↦ record {
        fits = omega (arith, w.waiting-is);
        told =
            waits_some c.args.ids.now.items c.deref-id-items.result.now c.loop-id.id-index c.loop-id.waiting c.match-id.waiting None w.in-Some.id (option_map id_view c.args.rest) (seen c.loop-id.resolved) (seen c.match-id.resolved) _
            c.deref-id-items.ensures.value c.loop-id-test.true w.in-Some.is (ap seen w.resolved-is ∙ w.in_ok-push_times.ensures) w.waiting-is c.loop-id.invariant.told;
      }
      | in_default w ↦ record {
        fits = omega (arith, w.waiting-is, c.loop-id.invariant.fits);
        told =
            waits_none c.args.ids.now.items c.deref-id-items.result.now c.loop-id.id-index c.loop-id.waiting c.match-id.waiting None (option_map id_view c.args.rest) (seen c.loop-id.resolved) (seen c.match-id.resolved) _
            c.deref-id-items.ensures.value c.loop-id-test.true w.in_default.is (ap seen w.resolved-is) w.waiting-is c.loop-id.invariant.told;
      }
    ]
