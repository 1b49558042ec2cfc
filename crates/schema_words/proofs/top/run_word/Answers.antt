use Rattle.std.proofs.Common.{sym, subst, map, string_bytes}
use Rattle.json_value.specs.View.{value_of}
use Rattle.schema_words.specs.Words.{Asking, asking_of}
use Rattle.schema_words.specs.Outcome.{EndsWord, IsCarried}
use Rattle.schema_words.proofs.Endings.{same_asking, no_schema, not_built, faulty, undisturbed}
use Rattle.schema_words.proofs.Plainly.{ends_plainly, plainly_undisturbed, unasked}
use Rattle.schema_words.proofs.top.run_word.Goals as goal

pub returns-in-Some-clause-carried : goal.returns-in-Some-clause-carried
returns-in-Some-clause-carried g c =
    let words = map string_bytes c.args.words.now in
    let word = c.args.word.now in
    let t = g.T.Texts.relations c.args.texts.now in
    let b = g.T.Texts.faults c.args.texts.now in
    let a = g.T.Texts.faults c.run_asked.new.texts in
    let before = g.K.Sink.written c.args.sink.now in
    let after = g.K.Sink.written c.run_asked.new.sink in
    let k : Asking = asking_of word words t b a in
    let same = same_asking word words c.in-Some.depth c.setting_of_words-setting.result t b a c.in-Some.ensures.exact c.setting_of_words-setting.ensures in
    subst (λ (k : Asking). IsCarried g.A.Answering.answers g.A.Answering.tells k before after c.run_asked.result) same c.run_asked.ensures.carried

pub returns-in-Some-clause-ends : goal.returns-in-Some-clause-ends
returns-in-Some-clause-ends g c = λ all left.
    let words = map string_bytes c.args.words.now in
    let word = c.args.word.now in
    let t = g.T.Texts.relations c.args.texts.now in
    let b = g.T.Texts.faults c.args.texts.now in
    let a = g.T.Texts.faults c.run_asked.new.texts in
    let before = g.K.Sink.written c.args.sink.now in
    let after = g.K.Sink.written c.run_asked.new.sink in
    let k : Asking = asking_of word words t b a in
    let same = same_asking word words c.in-Some.depth c.setting_of_words-setting.result t b a c.in-Some.ensures.exact c.setting_of_words-setting.ensures in
    let ends = subst (λ (k : Asking). EndsWord g.A.Answering.answers g.A.Answering.tells k all before after c.run_asked.result) same (c.run_asked.ensures.ends all left) in
    ends

pub returns-in-Some-clause-no_schema : goal.returns-in-Some-clause-no_schema
returns-in-Some-clause-no_schema g c = λ all left none.
    let words = map string_bytes c.args.words.now in
    let word = c.args.word.now in
    let t = g.T.Texts.relations c.args.texts.now in
    let b = g.T.Texts.faults c.args.texts.now in
    let a = g.T.Texts.faults c.run_asked.new.texts in
    let before = g.K.Sink.written c.args.sink.now in
    let after = g.K.Sink.written c.run_asked.new.sink in
    let k : Asking = asking_of word words t b a in
    let same = same_asking word words c.in-Some.depth c.setting_of_words-setting.result t b a c.in-Some.ensures.exact c.setting_of_words-setting.ensures in
    let ends = subst (λ (k : Asking). EndsWord g.A.Answering.answers g.A.Answering.tells k all before after c.run_asked.result) same (c.run_asked.ensures.ends all left) in
    no_schema g.A.Answering.answers g.A.Answering.tells k all before after c.run_asked.result ends none

pub returns-in-Some-clause-not_built : goal.returns-in-Some-clause-not_built
returns-in-Some-clause-not_built g c = λ all d left input other.
    let words = map string_bytes c.args.words.now in
    let word = c.args.word.now in
    let t = g.T.Texts.relations c.args.texts.now in
    let b = g.T.Texts.faults c.args.texts.now in
    let a = g.T.Texts.faults c.run_asked.new.texts in
    let before = g.K.Sink.written c.args.sink.now in
    let after = g.K.Sink.written c.run_asked.new.sink in
    let k : Asking = asking_of word words t b a in
    let same = same_asking word words c.in-Some.depth c.setting_of_words-setting.result t b a c.in-Some.ensures.exact c.setting_of_words-setting.ensures in
    let ends = subst (λ (k : Asking). EndsWord g.A.Answering.answers g.A.Answering.tells k all before after c.run_asked.result) same (c.run_asked.ensures.ends all left) in
    not_built g.A.Answering.answers g.A.Answering.tells k all before after d input other c.run_asked.result ends

pub returns-in-Some-clause-faulty : goal.returns-in-Some-clause-faulty
returns-in-Some-clause-faulty g c = λ all d f left input cause.
    let words = map string_bytes c.args.words.now in
    let word = c.args.word.now in
    let t = g.T.Texts.relations c.args.texts.now in
    let b = g.T.Texts.faults c.args.texts.now in
    let a = g.T.Texts.faults c.run_asked.new.texts in
    let before = g.K.Sink.written c.args.sink.now in
    let after = g.K.Sink.written c.run_asked.new.sink in
    let k : Asking = asking_of word words t b a in
    let same = same_asking word words c.in-Some.depth c.setting_of_words-setting.result t b a c.in-Some.ensures.exact c.setting_of_words-setting.ensures in
    let ends = subst (λ (k : Asking). EndsWord g.A.Answering.answers g.A.Answering.tells k all before after c.run_asked.result) same (c.run_asked.ensures.ends all left) in
    faulty g.A.Answering.answers g.A.Answering.tells k all before after d input f cause c.run_asked.result ends

pub returns-in-Some-clause-undisturbed : goal.returns-in-Some-clause-undisturbed
returns-in-Some-clause-undisturbed g c = λ all d left input said none reads writes judge.
    let words = map string_bytes c.args.words.now in
    let word = c.args.word.now in
    let t = g.T.Texts.relations c.args.texts.now in
    let b = g.T.Texts.faults c.args.texts.now in
    let a = g.T.Texts.faults c.run_asked.new.texts in
    let before = g.K.Sink.written c.args.sink.now in
    let after = g.K.Sink.written c.run_asked.new.sink in
    let k : Asking = asking_of word words t b a in
    let same = same_asking word words c.in-Some.depth c.setting_of_words-setting.result t b a c.in-Some.ensures.exact c.setting_of_words-setting.ensures in
    let ends = subst (λ (k : Asking). EndsWord g.A.Answering.answers g.A.Answering.tells k all before after c.run_asked.result) same (c.run_asked.ensures.ends all left) in
    undisturbed g.A.Answering.answers g.A.Answering.tells k all before after d input none judge c.run_asked.result ends c.run_asked.ensures.built (λ e. reads (c.run_asked.ensures.read_fault e).0) (λ e. writes (c.run_asked.ensures.write_fault e))

pub returns-in-None-clause-undisturbed : goal.returns-in-None-clause-undisturbed
returns-in-None-clause-undisturbed g c = λ all d left input said none reads writes judge. absurd (said (sym c.in-None.ensures.exact))

pub returns-in-Some-clause-plain : goal.returns-in-Some-clause-plain
returns-in-Some-clause-plain g c = λ all d left input plain.
    let words = map string_bytes c.args.words.now in
    let word = c.args.word.now in
    let t = g.T.Texts.relations c.args.texts.now in
    let b = g.T.Texts.faults c.args.texts.now in
    let a = g.T.Texts.faults c.run_asked.new.texts in
    let before = g.K.Sink.written c.args.sink.now in
    let after = g.K.Sink.written c.run_asked.new.sink in
    let k : Asking = asking_of word words t b a in
    let same = same_asking word words c.in-Some.depth c.setting_of_words-setting.result t b a c.in-Some.ensures.exact c.setting_of_words-setting.ensures in
    let ends = subst (λ (k : Asking). EndsWord g.A.Answering.answers g.A.Answering.tells k all before after c.run_asked.result) same (c.run_asked.ensures.ends all left) in
    ends_plainly g.A.Answering.answers g.A.Answering.tells k all d input plain before after c.run_asked.result ends c.run_asked.ensures.built

pub returns-in-None-clause-plain : goal.returns-in-None-clause-plain
returns-in-None-clause-plain g c = λ all d left input plain.
    let t = g.T.Texts.relations c.args.texts.now in
    let b = g.T.Texts.faults c.args.texts.now in
    absurd (unasked c.args.word.now (map string_bytes c.args.words.now) t b b (value_of d) c.in-None.ensures.exact plain)

pub returns-in-Some-clause-plain_undisturbed : goal.returns-in-Some-clause-plain_undisturbed
returns-in-Some-clause-plain_undisturbed g c = λ all d left input plain reads writes judge.
    let words = map string_bytes c.args.words.now in
    let word = c.args.word.now in
    let t = g.T.Texts.relations c.args.texts.now in
    let b = g.T.Texts.faults c.args.texts.now in
    let a = g.T.Texts.faults c.run_asked.new.texts in
    let before = g.K.Sink.written c.args.sink.now in
    let after = g.K.Sink.written c.run_asked.new.sink in
    let k : Asking = asking_of word words t b a in
    let same = same_asking word words c.in-Some.depth c.setting_of_words-setting.result t b a c.in-Some.ensures.exact c.setting_of_words-setting.ensures in
    let ends = subst (λ (k : Asking). EndsWord g.A.Answering.answers g.A.Answering.tells k all before after c.run_asked.result) same (c.run_asked.ensures.ends all left) in
    let plainly = ends_plainly g.A.Answering.answers g.A.Answering.tells k all d input plain before after c.run_asked.result ends c.run_asked.ensures.built in
    plainly_undisturbed g.A.Answering.answers g.A.Answering.tells k d before after c.run_asked.result plainly (λ e. reads (c.run_asked.ensures.read_fault e).0) (λ e. writes (c.run_asked.ensures.write_fault e)) judge

pub returns-in-None-clause-plain_undisturbed : goal.returns-in-None-clause-plain_undisturbed
returns-in-None-clause-plain_undisturbed g c = λ all d left input plain reads writes judge.
    let t = g.T.Texts.relations c.args.texts.now in
    let b = g.T.Texts.faults c.args.texts.now in
    absurd (unasked c.args.word.now (map string_bytes c.args.words.now) t b b (value_of d) c.in-None.ensures.exact plain)
