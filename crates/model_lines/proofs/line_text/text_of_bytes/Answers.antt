use Rattle.std.specs.Prelude.{string_bytes}
use Rattle.line_answers.specs.Answers.{not_json}
use Rattle.model_lines.proofs.Texts.{not_json_told, spoken_answer}
use Rattle.model_lines.proofs.line_text.text_of_bytes.Goals as goal

pub returns-in-Ok-clause-told : goal.returns-in-Ok-clause-told
returns-in-Ok-clause-told g c = λ short. c.text_of_value.ensures.told c.args.bytes.now short c.in-Ok.ensures.value

pub returns-in-Err-NotJson-clause-told : goal.returns-in-Err-NotJson-clause-told
returns-in-Err-NotJson-clause-told g c = λ short.
    spoken_answer string_bytes (g.T.Texts.relations c.args.texts.now) c.args.report.now c.args.bytes.now c.args.index not_json (short, not_json_told c.args.bytes.now (c.in-Err-NotJson.ensures.not_json c.in-Err-NotJson.field-0-is))
    c.not_json_line.result c.spoken.result c.not_json_line.ensures c.spoken.ensures.same
