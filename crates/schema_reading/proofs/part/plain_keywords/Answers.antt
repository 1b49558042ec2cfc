use Rattle.std.proofs.Common.{sym}
use Rattle.schema_reading.specs.Reading.{looked_up}
use Rattle.schema_reading.proofs.Parts.{nothing, plain_is}
use Rattle.schema_reading.proofs.part.plain_keywords.Goals as goal

pub returns-in_default : goal.returns-in_default
returns-in_default c =
    let lost = sym (rw c.in_default.is at c.in_ok-title.ensures) in
    rw (plain_is (looked_up c.args.members.now.entries)) (simp (lost, nothing))

pub returns-in_default-2 : goal.returns-in_default-2
returns-in_default-2 c =
    let lost = sym (rw c.in_default-2.is at c.in_ok-description.ensures) in
    rw (plain_is (looked_up c.args.members.now.entries)) (simp (lost, nothing))

pub returns-in_default-3 : goal.returns-in_default-3
returns-in_default-3 c =
    let lost = sym (rw c.in_default-3.is at c.in_ok-default.ensures) in
    rw (plain_is (looked_up c.args.members.now.entries)) (simp (lost, nothing))

pub returns-in_default-4 : goal.returns-in_default-4
returns-in_default-4 c =
    let lost = sym (rw c.in_default-4.is at c.in_ok-const_value.ensures) in
    rw (plain_is (looked_up c.args.members.now.entries)) (simp (lost, nothing))

pub returns-in_default-5 : goal.returns-in_default-5
returns-in_default-5 c =
    let lost = sym (rw c.in_default-5.is at c.in_ok-types.ensures) in
    rw (plain_is (looked_up c.args.members.now.entries)) (simp (lost, nothing))

pub returns-in_default-6 : goal.returns-in_default-6
returns-in_default-6 c =
    let lost = sym (rw c.in_default-6.is at c.in_ok-format.ensures) in
    rw (plain_is (looked_up c.args.members.now.entries)) (simp (lost, nothing))

pub returns-in_default-7 : goal.returns-in_default-7
returns-in_default-7 c =
    let lost = sym (rw c.in_default-7.is at c.in_ok-enum_values.ensures) in
    rw (plain_is (looked_up c.args.members.now.entries)) (simp (lost, nothing))

pub returns-in_default-numbers : goal.returns-in_default-numbers
returns-in_default-numbers c =
    let lost = sym (rw c.in_default-numbers.is at c.numbers.ensures) in
    rw (plain_is (looked_up c.args.members.now.entries)) (simp (lost, nothing))

pub returns-in_default-8 : goal.returns-in_default-8
returns-in_default-8 c =
    let lost = sym (rw c.in_default-8.is at c.in_ok-string.ensures) in
    rw (plain_is (looked_up c.args.members.now.entries)) (simp (lost, nothing))

pub returns-in_default-9 : goal.returns-in_default-9
returns-in_default-9 c =
    let lost = sym (rw c.in_default-9.is at c.in_ok-reference.ensures) in
    rw (plain_is (looked_up c.args.members.now.entries)) (simp lost)

pub returns : goal.returns
returns c =
    rw (
      plain_is (looked_up c.args.members.now.entries),
      sym (rw c.in-Some.is at c.in_ok-title.ensures),
      sym (rw c.in-Some-2.is at c.in_ok-description.ensures),
      sym (rw c.in-Some-3.is at c.in_ok-default.ensures),
      sym (rw c.in-Some-4.is at c.in_ok-const_value.ensures),
      sym (rw c.in-Some-5.is at c.in_ok-types.ensures),
      sym (rw c.in-Some-6.is at c.in_ok-format.ensures),
      sym (rw c.in-Some-7.is at c.in_ok-enum_values.ensures),
      sym (rw c.in-Some-numbers.is at c.numbers.ensures),
      sym (rw c.in-Some-8.is at c.in_ok-string.ensures),
      sym (rw c.in-Some-9.is at c.in_ok-reference.ensures),
    )
