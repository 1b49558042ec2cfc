use Rattle.std.specs.Prelude.{string_bytes}
use Rattle.serde_json.specs.View.{view}
use Rattle.derive_model.specs.VerdictView.{verdict_view}
use Rattle.model_lines.specs.Answers.{answer_of}
use Rattle.model_lines.proofs.Texts.{is_answer, is_printable, sound_in, spoken_answer, verdict_on}
use Rattle.model_lines.proofs.line_text.text_of_small.Goals as goal

pub judge_value-requires-clause-sound : goal.judge_value-requires-clause-sound
judge_value-requires-clause-sound g c = sound_in (g.T.Texts.relations c.args.texts.now) c.args.report.now c.args.models.now c.requires.judges c.requires.made

pub verdict_text-requires : goal.verdict_text-requires
verdict_text-requires g c =
    is_printable (g.T.Texts.relations c.args.texts.now) c.args.report.now c.args.models.now c.requires.judges c.requires.made (view c.args.value.now) (verdict_view c.in-Ok.verdict) c.requires.numbers c.in-Ok.ensures.verdict

pub returns-in-Ok-clause-told : goal.returns-in-Ok-clause-told
returns-in-Ok-clause-told g c = λ l short json.
    let r = c.args.report.now in
    let texts = g.T.Texts.relations c.args.texts.now in
    let v = verdict_view c.in-Ok.verdict in
    spoken_answer string_bytes texts r l c.args.index (answer_of v)
    (is_answer texts r l v (verdict_on texts r c.args.models.now c.requires.judges c.requires.made (view c.args.value.now) v c.requires.numbers c.in-Ok.ensures.verdict l short json))
    c.verdict_text.result c.spoken.result c.verdict_text.ensures c.spoken.ensures.same
