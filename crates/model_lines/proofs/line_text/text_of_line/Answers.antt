use Rattle.std.proofs.Common.{sym, ◌∙◌, subst}
use Rattle.std.proofs.Common.{◌≡◌, ◌≤◌, List, ℕ, Some, None, length}
use Rattle.std.specs.Prelude.{IfOk, string_bytes}
use Rattle.line_reader.proofs.Growing.{long_is, short_is}
use Rattle.line_answers.specs.Answers.{long}
use Rattle.line_reader.specs.Lines.{bound, kept}
use Rattle.model_lines.specs.Answers.{IsAnswerText}
use Rattle.model_lines.proofs.Texts.{spoken_answer}
use Rattle.model_lines.proofs.line_text.text_of_line.Goals as goal

pub returns-in-Some-clause-told : goal.returns-in-Some-clause-told
returns-in-Some-clause-told g c = λ l e.
    let k : Some c.in-Some.bytes.now ≡ kept l = c.in-Some.ensures ∙ e in
    let same = short_is l c.in-Some.bytes.now k in
    subst (λ (x : List ℕ). IfOk c.text_of_bytes.result (λ s. IsAnswerText (g.T.Texts.relations c.args.texts.now) c.args.report.now x c.args.index (string_bytes s))) same.0
    (c.text_of_bytes.ensures.told (subst (λ (x : List ℕ). length x ≤ bound) (sym same.0) same.1))

pub returns-in-None-clause-told : goal.returns-in-None-clause-told
returns-in-None-clause-told g c = λ l e.
    let k : None ≡ kept l = c.in-None.ensures ∙ e in
    spoken_answer string_bytes (g.T.Texts.relations c.args.texts.now) c.args.report.now l c.args.index long (long_is l k) c.long_line.result c.spoken.result c.long_line.ensures c.spoken.ensures.same
