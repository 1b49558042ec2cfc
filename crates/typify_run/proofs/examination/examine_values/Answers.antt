use Rattle.std.proofs.Common.{map}
use Rattle.serde_json.specs.View.{view}
use Rattle.json_value.specs.View.{value_of}
use Rattle.schema_tree.specs.Document.{view as document_seen}
use Rattle.schema_tree.proofs.Settings.{read_strictly}
use Rattle.document_laws.specs.Laws.{WasRead}
use Rattle.typify_run.proofs.Reported.{reported, all_printable, can_judge, settles_once}
use Rattle.schema_tree.specs.Fault.{fault_view}
use Rattle.typify_run.specs.Values.{seen}
use Rattle.typify_run.specs.Examine.{IsRefusal}
use Rattle.typify_run.specs.PlainInputs.{IsRefusedPlainly}
use Rattle.typify_run.proofs.Causes.{examined_so, told_of_fault, unreported_refused}
use Rattle.typify_run.proofs.Plainly.{unnoted, wide_plainly, unread_plainly, unreported_plainly}
use Rattle.typify_run.proofs.examination.examine_values.Goals as goal

pub report_of-requires-clause-read : goal.report_of-requires-clause-read
report_of-requires-clause-read g c =
    record { setting = c.args.setting; value = value_of (view c.args.document.now); read = c.in_ok-read.ensures.document; differ = c.names_differ.ensures }

pub returns-clause-report : goal.returns-clause-report
returns-clause-report g c =
    let r = g.T.Texts.relations c.args.texts.now in
    let d = document_seen c.in_ok-read.read in
    let was_read : WasRead d = record { setting = c.args.setting; value = value_of (view c.args.document.now); read = c.in_ok-read.ensures.document; differ = c.names_differ.ensures } in
    reported r d c.args.depth (seen c.args.values) c.in_ok-report.report was_read c.in_ok-report.ensures.report c.args.setting (value_of (view c.args.document.now)) c.in_ok-read.ensures.document

pub returns-clause-emission : goal.returns-clause-emission
returns-clause-emission g c =
    let h = c.in_ok-report.ensures.report in
    record {
      document = document_seen c.in_ok-read.read;
      is_read = c.in_ok-read.ensures.document;
      emission = h.emission;
      notes = h.notes;
      faultless = h.faultless;
      read = h.read;
    }

pub returns-clause-printable : goal.returns-clause-printable
returns-clause-printable g c =
    let r = g.T.Texts.relations c.args.texts.now in
    let d = document_seen c.in_ok-read.read in
    let was_read : WasRead d = record { setting = c.args.setting; value = value_of (view c.args.document.now); read = c.in_ok-read.ensures.document; differ = c.names_differ.ensures } in
    all_printable r d c.args.depth (seen c.args.values) c.in_ok-report.report was_read c.in_ok-report.ensures.report c.in_ok-check_judged.ensures.fine

pub returns-clause-judges : goal.returns-clause-judges
returns-clause-judges g c =
    let r = g.T.Texts.relations c.args.texts.now in
    let d = document_seen c.in_ok-read.read in
    let was_read : WasRead d = record { setting = c.args.setting; value = value_of (view c.args.document.now); read = c.in_ok-read.ensures.document; differ = c.names_differ.ensures } in
    can_judge r d c.args.depth (seen c.args.values) c.in_ok-report.report was_read c.in_ok-report.ensures.report

pub returns-clause-once : goal.returns-clause-once
returns-clause-once g c =
    let r = g.T.Texts.relations c.args.texts.now in
    let d = document_seen c.in_ok-read.read in
    let was_read : WasRead d = record { setting = c.args.setting; value = value_of (view c.args.document.now); read = c.in_ok-read.ensures.document; differ = c.names_differ.ensures } in
    settles_once r d c.args.depth (seen c.args.values) c.in_ok-report.report was_read c.in_ok-report.ensures.report

pub returns-clause-examined : goal.returns-clause-examined
returns-clause-examined g c =
    let h = c.in_ok-report.ensures.report in
    examined_so c.args.setting (g.T.Texts.relations c.args.texts.now) c.args.depth (value_of (view c.args.document.now)) (seen c.args.values) (document_seen c.in_ok-read.read)
    c.in_ok-check_judged.ensures.fine c.in_ok-read.ensures.document h.faultless h.read

pub returns-clause-accepted : goal.returns-clause-accepted
returns-clause-accepted g c = read_strictly c.args.setting (value_of (view c.args.document.now)) (document_seen c.in_ok-read.read) c.in_ok-read.ensures.document

pub returns-in_err-report-clause-refused : goal.returns-in_err-report-clause-refused
returns-in_err-report-clause-refused g c =
    let r = g.T.Texts.relations c.args.texts.now in
    let before = g.T.Texts.faults c.args.texts.now in
    let after = g.T.Texts.faults c.report_of.new.texts in
    let schema = value_of (view c.args.document.now) in
    let values = seen c.args.values in
    let fault = c.in_err-report.field-0.0 in
    told_of_fault c.from_residual-in_err-report.result fault (λ f. IsRefusal c.args.setting r c.args.depth before after schema values f) c.from_residual-in_err-report.ensures.1
    (unreported_refused c.args.setting r c.args.depth before after schema values (fault_view fault) (document_seen c.in_ok-read.read) c.in_ok-check_judged.ensures.fine c.in_ok-read.ensures.document c.in_err-report.ensures.refused)

-- ---- plain documents

pub returns-clause-plain_unnoted : goal.returns-clause-plain_unnoted
returns-clause-plain_unnoted g c = λ p.
    unnoted c.args.setting c.args.depth (value_of (view c.args.document.now)) (seen c.args.values) p (g.T.Texts.relations c.args.texts.now) c.in_ok-report.report (returns-clause-emission g c)

pub returns-in_err-check_judged-clause-plain_refused : goal.returns-in_err-check_judged-clause-plain_refused
returns-in_err-check_judged-clause-plain_refused g c =
    let r = g.T.Texts.relations c.args.texts.now in
    let faults = g.T.Texts.faults c.args.texts.now in
    let schema = value_of (view c.args.document.now) in
    let values = seen c.args.values in
    let fault = c.in_err-check_judged.field-0.0 in
    told_of_fault c.from_residual.result fault (λ f. IsRefusedPlainly c.args.setting r c.args.depth faults faults schema values f) c.from_residual.ensures.1
    (wide_plainly c.args.setting r c.args.depth faults faults schema values c.names_differ.ensures (fault_view fault) c.in_err-check_judged.ensures.refusal)

pub returns-in_err-read-clause-plain_refused : goal.returns-in_err-read-clause-plain_refused
returns-in_err-read-clause-plain_refused g c =
    let r = g.T.Texts.relations c.args.texts.now in
    let faults = g.T.Texts.faults c.args.texts.now in
    let schema = value_of (view c.args.document.now) in
    let values = seen c.args.values in
    let fault = c.in_err-read.field-0.0 in
    told_of_fault c.from_residual-in_err-read.result fault (λ f. IsRefusedPlainly c.args.setting r c.args.depth faults faults schema values f) c.from_residual-in_err-read.ensures.1
    (unread_plainly c.args.setting r c.args.depth faults faults schema values c.names_differ.ensures (fault_view fault) c.in_ok-check_judged.ensures.fine c.in_err-read.ensures.refusal)

pub returns-in_err-report-clause-plain_refused : goal.returns-in_err-report-clause-plain_refused
returns-in_err-report-clause-plain_refused g c =
    let r = g.T.Texts.relations c.args.texts.now in
    let before = g.T.Texts.faults c.args.texts.now in
    let after = g.T.Texts.faults c.report_of.new.texts in
    let schema = value_of (view c.args.document.now) in
    let values = seen c.args.values in
    let fault = c.in_err-report.field-0.0 in
    told_of_fault c.from_residual-in_err-report.result fault (λ f. IsRefusedPlainly c.args.setting r c.args.depth before after schema values f) c.from_residual-in_err-report.ensures.1
    (unreported_plainly c.args.setting r c.args.depth before after schema values c.names_differ.ensures (fault_view fault) (document_seen c.in_ok-read.read) c.in_ok-check_judged.ensures.fine c.in_ok-read.ensures.document c.in_err-report.ensures.refused)
