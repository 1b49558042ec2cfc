use Rattle.std.proofs.Common.{sym, ◌∙◌}
use Rattle.schema_reading.specs.Reading.{looked_up}
use Rattle.schema_reading.proofs.Parts.{nothing, texts_absent, texts_stand}
use Rattle.schema_reading.proofs.part.texts.Goals as goal

pub returns-then-not-stands : goal.returns-then-not-stands
returns-then-not-stands c = sym (texts_absent (looked_up c.args.members.now.entries) (sym c.stands.ensures ∙ c.if-not-stands.true))

pub returns-in_default : goal.returns-in_default
returns-in_default c =
    let lost = sym (rw c.in_default.is at c.size_at.ensures) in
    rw (texts_stand (looked_up c.args.members.now.entries) (sym c.stands.ensures ∙ c.if-not-stands.false)) (simp (lost, nothing))

pub returns-in_default-size_at : goal.returns-in_default-size_at
returns-in_default-size_at c =
    let lost = sym (rw c.in_default-size_at.is at c.size_at-2.ensures) in
    rw (texts_stand (looked_up c.args.members.now.entries) (sym c.stands.ensures ∙ c.if-not-stands.false)) (simp (lost, nothing))

pub returns-in_default-2 : goal.returns-in_default-2
returns-in_default-2 c =
    let lost = sym (rw c.in_default-2.is at c.in_ok-patterns.ensures) in
    rw (texts_stand (looked_up c.args.members.now.entries) (sym c.stands.ensures ∙ c.if-not-stands.false)) (simp lost)

pub returns : goal.returns
returns c =
    rw (
      texts_stand (looked_up c.args.members.now.entries) (sym c.stands.ensures ∙ c.if-not-stands.false),
      sym (rw c.in-Some.is at c.size_at.ensures),
      sym (rw c.in-Some-size_at.is at c.size_at-2.ensures),
      sym (rw c.in-Some-2.is at c.in_ok-patterns.ensures),
      c.or_none.ensures,
    )
