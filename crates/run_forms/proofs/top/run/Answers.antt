use Rattle.std.proofs.Common.{sym, refl, map, string_bytes}
use Rattle.sample_run.specs.Words.{sample_said}
use Rattle.run_forms.proofs.Known.{no_sample}
use Rattle.run_forms.proofs.top.run.Goals as goal

-- ---- `sample N`

pub returns-in-Some-clause-words : goal.returns-in-Some-clause-words
returns-in-Some-clause-words g c =
    let said = sample_said (map string_bytes c.args.words.now) in (
      λ e. no_sample said c.in-Some._number c.in-Some.ensures.exact (c.run_sample.ensures.words.0 e),
      λ p. no_sample said c.in-Some._number c.in-Some.ensures.exact p.1,
    )

pub returns-in-Some-clause-unread : goal.returns-in-Some-clause-unread
returns-in-Some-clause-unread g c = λ n e. (refl, refl, refl)

pub returns-in-Some-clause-others : goal.returns-in-Some-clause-others
returns-in-Some-clause-others g c = λ none. no_sample (sample_said (map string_bytes c.args.words.now)) c.in-Some._number c.in-Some.ensures.exact none

-- ---- other words

pub returns-in-None-clause-words : goal.returns-in-None-clause-words
returns-in-None-clause-words g c = (λ e. (c.run.ensures.words.0 e, sym c.in-None.ensures.exact), λ p. c.run.ensures.words.1 p.0)

pub returns-in-None-clause-sample : goal.returns-in-None-clause-sample
returns-in-None-clause-sample g c = λ n e. no_sample (sample_said (map string_bytes c.args.words.now)) n (sym e) (sym c.in-None.ensures.exact)

pub returns-in-None-clause-unread : goal.returns-in-None-clause-unread
returns-in-None-clause-unread g c = λ n e. no_sample (sample_said (map string_bytes c.args.words.now)) n (sym e) (sym c.in-None.ensures.exact)

pub returns-in-None-clause-others : goal.returns-in-None-clause-others
returns-in-None-clause-others g c = λ none.
    let e = c.run.ensures in
    record {
      carried = e.carried;
      printed = e.report;
      told = e.fault;
      other_words = e.words;
      untouched = e.other_words;
      no_input = e.no_input;
      read_fault = e.read_fault;
      writing_cut = e.writing_cut;
      memory = e.memory;
      refused = e.refused;
      not_built = e.not_built;
      faulty = e.faulty;
      plain = e.plain;
      undisturbed = e.undisturbed;
      plain_undisturbed = e.plain_undisturbed;
      spent = e.spent;
    }
