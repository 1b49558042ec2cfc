use Rattle.std.proofs.Common.{◌++◌, ◌∙◌, ap, arith, string_bytes}
use Rattle.plain_patterns.proofs.Members.{closed, ended, next_member, refused}
use Rattle.plain_patterns.proofs.class.write_members.Goals as goal

pub returns-then-first-eq93-clause-value : goal.returns-then-first-eq93-clause-value
returns-then-first-eq93-clause-value c =
    closed _ _ _ _ _ _ _ c.in-Some.ensures.cases.0 c.if-first-eq93.true
    (c.in_ok-push.ensures.bytes ∙ ap (λ w. string_bytes c.loop-first.out ++ w) (c.in_ok-push.ensures.ascii (omega arith))) c.loop-first.invariant.1

pub returns-in_default-member-clause-value : goal.returns-in_default-member-clause-value
returns-in_default-member-clause-value c =
    refused _ _ _ _ _ _ c.in-Some.ensures.cases.0 c.if-first-eq93.false c.in_default-member.ensures.value c.loop-first.invariant.1

pub loop-first-preserved : goal.loop-first-preserved
loop-first-preserved c = (
  omega (arith, c.in-Some-member.ensures.shorter, c.loop-first.invariant.0),
  next_member _ _ _ _ _ _ _ _ _ c.in-Some.ensures.cases.0 c.if-first-eq93.false c.in-Some-member.ensures.value c.in-Some-member.ensures.shorter
      c.in_ok-write_member.ensures c.loop-first.invariant.1,
)

pub returns-clause-value : goal.returns-clause-value
returns-clause-value c = ended _ _ _ _ c.in_default.ensures.cases c.loop-first.invariant.1
