use Rattle.std.proofs.Common.{◌≡◌, ◌≤◌, ℕ, List, Some, None, length, sym, ◌∙◌, inl, inr, subst}
use Rattle.std.specs.Prelude.{IfOk}
use Rattle.serde_json.specs.View.{view}
use Rattle.line_reader.specs.Lines.{bound, kept}
use Rattle.line_reader.proofs.Growing.{long_is, short_is}
use Rattle.model_lines.specs.Answers.{IsJson, IsNotJson}
use Rattle.model_lines.proofs.Texts.{json_when, not_json_when}
use Rattle.model_lines.proofs.top.line_value.Goals as goal

pub returns-in-Some-clause-value : goal.returns-in-Some-clause-value
returns-in-Some-clause-value c = λ l e.
    let k : Some c.in-Some.bytes.now ≡ kept l = c.in-Some.ensures ∙ e in
    let same = short_is l c.in-Some.bytes.now k in
    json_when c.in-Some.bytes.now l same.0 same.1 c.input_value.result c.input_value.ensures.value

pub returns-in-Some-clause-none : goal.returns-in-Some-clause-none
returns-in-Some-clause-none c = λ l e h.
    let k : Some c.in-Some.bytes.now ≡ kept l = c.in-Some.ensures ∙ e in
    let same = short_is l c.in-Some.bytes.now k in
    inr (subst IsNotJson same.0 (not_json_when c.in-Some.bytes.now c.input_value.result c.input_value.ensures.not_json h))

pub returns-in-None-clause-none : goal.returns-in-None-clause-none
returns-in-None-clause-none c = λ l e h. let k : None ≡ kept l = c.in-None.ensures ∙ e in inl (long_is l k)
