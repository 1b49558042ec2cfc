use Rattle.std.proofs.Common.{◌+◌, ◌≤◌, length, arith}
use Rattle.plain_patterns.proofs.Scanned.{deeper}
use Rattle.plain_patterns.proofs.Unread.{read_whole, reads_on, stops_at, stops_before}
use Rattle.plain_patterns.proofs.stop.unread.Goals as goal

pub returns-in_default-2-clause-value : goal.returns-in_default-2-clause-value
returns-in_default-2-clause-value c =
    stops_before _ _ _ _ _ _ _ c.in-Some.ensures.cases.0 (rw c.in_default-2.is at c.in_ok-kind.ensures.value) c.loop-first.invariant.1

pub returns-in_default-after-clause-value : goal.returns-in_default-after-clause-value
returns-in_default-after-clause-value c =
    stops_at _ _ _ _ _ _ _ _ _ _ c.in-Some.ensures.cases.0 (rw c.in-Some-2.is at c.in_ok-kind.ensures.value) c.in_default-after.ensures c.loop-first.invariant.1

pub loop-first-preserved : goal.loop-first-preserved
loop-first-preserved c =
    let shorter : length c.in-Some-2.after.now ≤ length c.in-Some.rest.now = rw c.in-Some-2.is at c.in_ok-kind.ensures.shorter in
    let deep : c.in-Some-after.next.depth ≤ c.loop-first.state.depth + 1 = deeper c.loop-first.state c.in-Some-after.next c.in-Some-2.kind c.in-Some-after.ensures in (
      omega (arith, c.in-Some.ensures.cases.1, c.loop-first.invariant.0),
      reads_on _ _ _ _ _ _ _ _ _ _ _ c.in-Some.ensures.cases.0 (rw c.in-Some-2.is at c.in_ok-kind.ensures.value) c.in-Some-after.ensures shorter c.loop-first.invariant.1,
    )

pub returns-clause-value : goal.returns-clause-value
returns-clause-value c = read_whole _ _ _ _ c.in_default.ensures.cases c.loop-first.invariant.1
