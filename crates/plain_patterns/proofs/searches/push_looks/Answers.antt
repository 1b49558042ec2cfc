use Rattle.std.proofs.Common.{arith, map}
use Rattle.plain_patterns.specs.Ends.{look_seen}
use Rattle.plain_patterns.proofs.Ended.{next_look, no_inside, no_look}
use Rattle.plain_patterns.proofs.searches.push_looks.Goals as goal

pub returns-in_default-2-clause-value : goal.returns-in_default-2-clause-value
returns-in_default-2-clause-value c =
    no_inside _ _ _ (map look_seen c.loop-negated.looks.items) _ _ _ c.in-Some.ensures.shorter c.in-Some.ensures.value (rw c.in_default-2.is at c.in_ok-rest.ensures.value) c.loop-negated.invariant.1

pub loop-negated-preserved : goal.loop-negated-preserved
loop-negated-preserved c =
    let shorter = rw c.in-Some-2.is at c.in_ok-rest.ensures.shorter in (
      omega (arith, shorter, c.in-Some.ensures.shorter, c.loop-negated.invariant.0),
      next_look _ _ _ (map look_seen c.loop-negated.looks.items) (map look_seen c.push_look.new.looks.items) _ _ _ _ c.in-Some.ensures.shorter c.in-Some.ensures.value (rw c.in-Some-2.is at c.in_ok-rest.ensures.value) shorter c.loop-negated.invariant.1,
    )

pub returns-clause-value : goal.returns-clause-value
returns-clause-value c = no_look _ _ _ _ _ c.in_default.ensures.value c.loop-negated.invariant.1
