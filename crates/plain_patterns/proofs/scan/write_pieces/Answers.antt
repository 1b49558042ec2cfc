use Rattle.std.proofs.Common.{◌∙◌, ◌+◌, ◌≤◌, length, arith, sym}
use Rattle.plain_patterns.proofs.Scanned.{deeper, ended_here, next_piece, no_piece, no_place, nothing_left, open_group}
use Rattle.plain_patterns.proofs.scan.write_pieces.Goals as goal

pub returns-then-is_end-clause-value : goal.returns-then-is_end-clause-value
returns-then-is_end-clause-value c =
    ended_here _ _ _ _ _ _ _ c.in-Some.ensures.cases.0 (sym c.is_end.ensures ∙ c.if-is_end.true) c.loop-first.invariant.1

pub returns-in_default-2-clause-value : goal.returns-in_default-2-clause-value
returns-in_default-2-clause-value c =
    no_piece _ _ _ _ _ _ _ c.in-Some.ensures.cases.0 (sym c.is_end.ensures ∙ c.if-is_end.false) (rw c.in_default-2.is at c.in_ok-kind.ensures.value) c.loop-first.invariant.1

pub returns-in_default-after-clause-value : goal.returns-in_default-after-clause-value
returns-in_default-after-clause-value c =
    no_place _ _ _ _ _ _ _ _ _ _ c.in-Some.ensures.cases.0 (sym c.is_end.ensures ∙ c.if-is_end.false) (rw c.in-Some-2.is at c.in_ok-kind.ensures.value) c.in_default-after.ensures c.loop-first.invariant.1

pub loop-first-preserved : goal.loop-first-preserved
loop-first-preserved c =
    let shorter : length c.in-Some-2.after.now ≤ length c.in-Some.rest.now = rw c.in-Some-2.is at c.in_ok-kind.ensures.shorter in
    let deep : c.in-Some-after.next.depth ≤ c.loop-first.state.depth + 1 = deeper c.loop-first.state c.in-Some-after.next c.in-Some-2.kind c.in-Some-after.ensures in (
      omega (arith, c.in-Some.ensures.cases.1, c.loop-first.invariant.0),
      next_piece _ _ _ _ _ _ _ _ _ _ _ c.in-Some.ensures.cases.0 (sym c.is_end.ensures ∙ c.if-is_end.false) (rw c.in-Some-2.is at c.in_ok-kind.ensures.value) c.in-Some-after.ensures shorter c.loop-first.invariant.1,
    )

pub returns-then-state-eq0-clause-value : goal.returns-then-state-eq0-clause-value
returns-then-state-eq0-clause-value c = nothing_left _ _ _ _ _ c.in_default.ensures.cases c.if-state-eq0.true c.loop-first.invariant.1

pub returns-clause-value : goal.returns-clause-value
returns-clause-value c = open_group _ _ _ _ _ c.in_default.ensures.cases c.if-state-eq0.false c.loop-first.invariant.1
