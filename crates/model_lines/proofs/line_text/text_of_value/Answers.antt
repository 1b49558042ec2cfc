use Rattle.std.specs.Prelude.{string_bytes}
use Rattle.std.proofs.Common.{sym}
use Rattle.serde_json.specs.View.{view}
use Rattle.json_value.specs.View.{value_of}
use Rattle.line_answers.specs.Answers.{wide}
use Rattle.model_lines.proofs.Texts.{spoken_answer}
use Rattle.model_lines.proofs.line_text.text_of_value.Goals as goal

pub returns-in-Ok-Some-clause-told : goal.returns-in-Ok-Some-clause-told
returns-in-Ok-Some-clause-told g c = λ l short json.
    spoken_answer string_bytes (g.T.Texts.relations c.args.texts.now) c.args.report.now l c.args.index (wide c.in-Ok-Some.path) (short, (view c.args.value.now, json, sym (rw c.in-Ok-Some.field-0-is at c.in-Ok-Some.ensures)))
    c.number_line.result c.spoken.result c.number_line.ensures c.spoken.ensures.same

pub text_of_small-requires-clause-numbers : goal.text_of_small-requires-clause-numbers
text_of_small-requires-clause-numbers g c = (c.wide_places_are_exact.ensures (value_of (view c.args.value.now))).0 (sym (rw c.in-Ok-None.field-0-is at c.in-Ok-None.ensures))
