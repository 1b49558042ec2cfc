use Rattle.std.proofs.Common.{◌∙◌, sym, subst, map, string_bytes}
use Rattle.std.proofs.lemmas.Option.{same_Some}
use Rattle.sample_run.specs.Sampled.{EndsSampled}
use Rattle.sample_run.specs.Words.{sample_said}
use Rattle.sample_run.proofs.Ends.{no_sample, within, not_two}
use Rattle.sample_run.proofs.top.run_sample.Goals as goal

-- ---- `sample N`

pub returns-in-Some-clause-within : goal.returns-in-Some-clause-within
returns-in-Some-clause-within g c =
    let o = c.run_number.result in
    within c.in-Some.number (g.K.Sink.written c.args.sink.now) (g.K.Sink.written c.run_number.new.sink) o.status o.report o.fault c.run_number.ensures.ends

pub returns-in-Some-clause-words : goal.returns-in-Some-clause-words
returns-in-Some-clause-words g c =
    let o = c.run_number.result in (
      λ e. absurd (not_two c.in-Some.number (g.K.Sink.written c.args.sink.now) (g.K.Sink.written c.run_number.new.sink) o.status o.report o.fault c.run_number.ensures.ends e),
      λ p. no_sample (sample_said (map string_bytes c.args.words.now)) c.in-Some.number c.in-Some.ensures.exact p,
    )

pub returns-in-Some-clause-other_words : goal.returns-in-Some-clause-other_words
returns-in-Some-clause-other_words g c = λ e.
    let o = c.run_number.result in
    absurd (not_two c.in-Some.number (g.K.Sink.written c.args.sink.now) (g.K.Sink.written c.run_number.new.sink) o.status o.report o.fault c.run_number.ensures.ends e)

pub returns-in-Some-clause-ends : goal.returns-in-Some-clause-ends
returns-in-Some-clause-ends g c = λ n e.
    let o = c.run_number.result in
    let before = g.K.Sink.written c.args.sink.now in
    let after = g.K.Sink.written c.run_number.new.sink in
    subst (λ k. EndsSampled k before after o.status o.report o.fault) (same_Some c.in-Some.number n (c.in-Some.ensures.exact ∙ e)) c.run_number.ensures.ends

-- ---- other words

pub returns-in-None-clause-ends : goal.returns-in-None-clause-ends
returns-in-None-clause-ends g c = λ n e. no_sample (sample_said (map string_bytes c.args.words.now)) n (sym e) (sym c.in-None.ensures.exact)
