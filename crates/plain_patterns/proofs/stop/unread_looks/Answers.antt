use Rattle.std.proofs.Common.{arith}
use Rattle.plain_patterns.proofs.Unread.{next_look, no_look, stops_within}
use Rattle.plain_patterns.proofs.stop.unread_looks.Goals as goal

pub returns-in_default-after-clause-value : goal.returns-in_default-after-clause-value
returns-in_default-after-clause-value c =
    stops_within _ _ _ _ _ _ c.in-Some.ensures.shorter c.in-Some.ensures.value c.in_ok-stop.ensures.value c.in_default-after.ensures.value c.loop-inner.invariant.1

pub loop-inner-preserved : goal.loop-inner-preserved
loop-inner-preserved c = (
  omega (arith, c.in-Some-after.ensures.shorter, c.in_ok-stop.ensures.within, c.in-Some.ensures.shorter, c.loop-inner.invariant.0),
  next_look _ _ _ _ _ _ _ c.in-Some.ensures.shorter c.in-Some.ensures.value c.in_ok-stop.ensures.value c.in-Some-after.ensures.value
      (omega (arith, c.in-Some-after.ensures.shorter, c.in_ok-stop.ensures.within)) c.loop-inner.invariant.1,
)

pub returns-clause-value : goal.returns-clause-value
returns-clause-value c = no_look _ _ _ _ c.in_default.ensures.value c.in_ok-stop-2.ensures.value c.loop-inner.invariant.1
