use Rattle.std.proofs.Common.{map}
use Rattle.serde_json.specs.View.{view}
use Rattle.json_value.specs.View.{value_of}
use Rattle.schema_tree.specs.Document.{view as document_seen}
use Rattle.schema_tree.specs.Fault.{fault_view}
use Rattle.admission_run.specs.Verdicts.{IsRefusal}
use Rattle.admission_run.proofs.Endings.{unjudged_refused, told_of_fault}
use Rattle.admission_run.proofs.judging.verdicts.Goals as goal

pub returns-in_err-answers-clause-refused : goal.returns-in_err-answers-clause-refused
returns-in_err-answers-clause-refused g c =
    let before = g.T.Texts.faults c.args.texts.now in
    let after = g.T.Texts.faults c.judge_all.new.texts in
    let schema = value_of (view c.args.schema.now) in
    let values = map view c.args.values.now in
    let fault = c.in_err-answers.field-0.0 in
    told_of_fault c.from_residual-in_err-answers.result fault (λ f. IsRefusal before after schema values f) c.from_residual-in_err-answers.ensures.1
    (unjudged_refused c.args.setting before after schema values (document_seen c.in_ok-document.document) (fault_view fault) c.in_ok-check_values.ensures.fine c.in_ok-document.ensures.document c.in_err-answers.ensures.refused)
