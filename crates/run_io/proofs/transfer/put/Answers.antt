use Rattle.std.proofs.Common.{rules, refl}
use Rattle.run_io.proofs.Known.{front_appended, front_grown}
use Rattle.run_io.proofs.transfer.put.Goals as goal

pub returns-in-Ok-eq0-clause-front : goal.returns-in-Ok-eq0-clause-front
returns-in-Ok-eq0-clause-front g c =
    front_appended _ _ _ _ _ (front_grown _ _ _ _ _ _ c.loop-done.invariant.appended c.in-Ok-eq0.ensures.appended) refl

pub loop-done-preserved : goal.loop-done-preserved
loop-done-preserved g c = record {
  in_range = search rules;
  appended = front_grown _ _ _ _ _ _ c.loop-done.invariant.appended c.in-Ok.ensures.appended;
  kept = search rules;
}

pub returns-in-Err-clause-front : goal.returns-in-Err-clause-front
returns-in-Err-clause-front g c = front_appended _ _ _ _ _ c.loop-done.invariant.appended c.in-Err.ensures.unchanged
