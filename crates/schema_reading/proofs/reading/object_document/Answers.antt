use Rattle.std.proofs.Common.{Some, sym, ap}
use Rattle.schema_reading.proofs.Parts.{nothing}
use Rattle.schema_reading.proofs.Definitions.{document_is}
use Rattle.schema_reading.proofs.reading.object_document.Goals as goal

pub returns-in_default : goal.returns-in_default
returns-in_default c =
    let lost = sym (rw c.in_default.is at c.in_ok-root.ensures) in
    rw (document_is c.args.setting (c.args.members.now.entries)) (simp (lost, nothing))

pub returns-in_default-2 : goal.returns-in_default-2
returns-in_default-2 c =
    let lost = sym (rw c.in_default-2.is at c.in_ok-definitions.ensures) in
    rw (document_is c.args.setting (c.args.members.now.entries)) (simp lost)

pub returns : goal.returns
returns c =
    rw (
      document_is c.args.setting (c.args.members.now.entries),
      sym (rw c.in-Some.is at c.in_ok-root.ensures),
      sym (rw c.in-Some-2.is at c.in_ok-definitions.ensures),
    ) (ap Some c.new.ensures)
