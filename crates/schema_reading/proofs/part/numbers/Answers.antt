use Rattle.std.proofs.Common.{sym, ◌∙◌}
use Rattle.schema_reading.specs.Reading.{looked_up}
use Rattle.schema_reading.proofs.Parts.{nothing, numbers_absent, numbers_stand}
use Rattle.schema_reading.proofs.part.numbers.Goals as goal

pub returns-then-not-stands : goal.returns-then-not-stands
returns-then-not-stands c = sym (numbers_absent (looked_up c.args.members.now.entries) (sym c.stands.ensures ∙ c.if-not-stands.true))

pub returns-in_default : goal.returns-in_default
returns-in_default c =
    let lost = sym (rw c.in_default.is at c.multiple_at.ensures) in
    rw (numbers_stand (looked_up c.args.members.now.entries) (sym c.stands.ensures ∙ c.if-not-stands.false)) (simp (lost, nothing))

pub returns-in_default-integer_at : goal.returns-in_default-integer_at
returns-in_default-integer_at c =
    let lost = sym (rw c.in_default-integer_at.is at c.integer_at.ensures) in
    rw (numbers_stand (looked_up c.args.members.now.entries) (sym c.stands.ensures ∙ c.if-not-stands.false)) (simp (lost, nothing))

pub returns-in_default-integer_at-2 : goal.returns-in_default-integer_at-2
returns-in_default-integer_at-2 c =
    let lost = sym (rw c.in_default-integer_at-2.is at c.integer_at-2.ensures) in
    rw (numbers_stand (looked_up c.args.members.now.entries) (sym c.stands.ensures ∙ c.if-not-stands.false)) (simp (lost, nothing))

pub returns-in_default-integer_at-3 : goal.returns-in_default-integer_at-3
returns-in_default-integer_at-3 c =
    let lost = sym (rw c.in_default-integer_at-3.is at c.integer_at-3.ensures) in
    rw (numbers_stand (looked_up c.args.members.now.entries) (sym c.stands.ensures ∙ c.if-not-stands.false)) (simp (lost, nothing))

pub returns-in_default-integer_at-4 : goal.returns-in_default-integer_at-4
returns-in_default-integer_at-4 c =
    let lost = sym (rw c.in_default-integer_at-4.is at c.integer_at-4.ensures) in
    rw (numbers_stand (looked_up c.args.members.now.entries) (sym c.stands.ensures ∙ c.if-not-stands.false)) (simp lost)

pub returns : goal.returns
returns c =
    rw (
      numbers_stand (looked_up c.args.members.now.entries) (sym c.stands.ensures ∙ c.if-not-stands.false),
      sym (rw c.in-Some.is at c.multiple_at.ensures),
      sym (rw c.in-Some-integer_at.is at c.integer_at.ensures),
      sym (rw c.in-Some-integer_at-2.is at c.integer_at-2.ensures),
      sym (rw c.in-Some-integer_at-3.is at c.integer_at-3.ensures),
      sym (rw c.in-Some-integer_at-4.is at c.integer_at-4.ensures),
    )
