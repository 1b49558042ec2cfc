use Rattle.std.proofs.Common.{sym, subst, map, string_bytes}
use Rattle.schema_words.specs.Words.{Asking, asking_of}
use Rattle.pair_words.specs.Outcome.{EndsWord, IsCarried}
use Rattle.schema_words.proofs.Endings.{same_asking}
use Rattle.pair_words.proofs.Pairs.{no_pair, not_built, faulty, undisturbed}
use Rattle.pair_words.proofs.top.run_pair.Goals as goal

pub returns-in-Some-clause-carried : goal.returns-in-Some-clause-carried
returns-in-Some-clause-carried g c =
    let words = map string_bytes c.args.words.now in
    let word = c.args.word.now in
    let t = g.T.Texts.relations c.args.texts.now in
    let b = g.T.Texts.faults c.args.texts.now in
    let a = g.T.Texts.faults c.run_asked.new.texts in
    let before = g.K.Sink.written c.args.sink.now in
    let after = g.K.Sink.written c.run_asked.new.sink in
    let k : Asking = asking_of word words t b a in
    let same = same_asking word words c.in-Some.depth c.setting_of_words-setting.result t b a c.in-Some.ensures.exact c.setting_of_words-setting.ensures in
    subst (λ (k : Asking). IsCarried g.A.Comparing.answers k before after c.run_asked.result) same c.run_asked.ensures.carried

pub returns-in-Some-clause-ends : goal.returns-in-Some-clause-ends
returns-in-Some-clause-ends g c = λ all left.
    let words = map string_bytes c.args.words.now in
    let word = c.args.word.now in
    let t = g.T.Texts.relations c.args.texts.now in
    let b = g.T.Texts.faults c.args.texts.now in
    let a = g.T.Texts.faults c.run_asked.new.texts in
    let before = g.K.Sink.written c.args.sink.now in
    let after = g.K.Sink.written c.run_asked.new.sink in
    let k : Asking = asking_of word words t b a in
    let same = same_asking word words c.in-Some.depth c.setting_of_words-setting.result t b a c.in-Some.ensures.exact c.setting_of_words-setting.ensures in
    let ends = subst (λ (k : Asking). EndsWord g.A.Comparing.answers k all before after c.run_asked.result) same (c.run_asked.ensures.ends all left) in
    ends

pub returns-in-Some-clause-no_pair : goal.returns-in-Some-clause-no_pair
returns-in-Some-clause-no_pair g c = λ all left none.
    let words = map string_bytes c.args.words.now in
    let word = c.args.word.now in
    let t = g.T.Texts.relations c.args.texts.now in
    let b = g.T.Texts.faults c.args.texts.now in
    let a = g.T.Texts.faults c.run_asked.new.texts in
    let before = g.K.Sink.written c.args.sink.now in
    let after = g.K.Sink.written c.run_asked.new.sink in
    let k : Asking = asking_of word words t b a in
    let same = same_asking word words c.in-Some.depth c.setting_of_words-setting.result t b a c.in-Some.ensures.exact c.setting_of_words-setting.ensures in
    let ends = subst (λ (k : Asking). EndsWord g.A.Comparing.answers k all before after c.run_asked.result) same (c.run_asked.ensures.ends all left) in
    no_pair g.A.Comparing.answers k all before after c.run_asked.result ends none

pub returns-in-Some-clause-not_built : goal.returns-in-Some-clause-not_built
returns-in-Some-clause-not_built g c = λ all p left input other.
    let words = map string_bytes c.args.words.now in
    let word = c.args.word.now in
    let t = g.T.Texts.relations c.args.texts.now in
    let b = g.T.Texts.faults c.args.texts.now in
    let a = g.T.Texts.faults c.run_asked.new.texts in
    let before = g.K.Sink.written c.args.sink.now in
    let after = g.K.Sink.written c.run_asked.new.sink in
    let k : Asking = asking_of word words t b a in
    let same = same_asking word words c.in-Some.depth c.setting_of_words-setting.result t b a c.in-Some.ensures.exact c.setting_of_words-setting.ensures in
    let ends = subst (λ (k : Asking). EndsWord g.A.Comparing.answers k all before after c.run_asked.result) same (c.run_asked.ensures.ends all left) in
    not_built g.A.Comparing.answers k all before after p input other c.run_asked.result ends

pub returns-in-Some-clause-faulty : goal.returns-in-Some-clause-faulty
returns-in-Some-clause-faulty g c = λ all p f left input cause.
    let words = map string_bytes c.args.words.now in
    let word = c.args.word.now in
    let t = g.T.Texts.relations c.args.texts.now in
    let b = g.T.Texts.faults c.args.texts.now in
    let a = g.T.Texts.faults c.run_asked.new.texts in
    let before = g.K.Sink.written c.args.sink.now in
    let after = g.K.Sink.written c.run_asked.new.sink in
    let k : Asking = asking_of word words t b a in
    let same = same_asking word words c.in-Some.depth c.setting_of_words-setting.result t b a c.in-Some.ensures.exact c.setting_of_words-setting.ensures in
    let ends = subst (λ (k : Asking). EndsWord g.A.Comparing.answers k all before after c.run_asked.result) same (c.run_asked.ensures.ends all left) in
    faulty g.A.Comparing.answers k all before after p input f cause c.run_asked.result ends

pub returns-in-Some-clause-undisturbed : goal.returns-in-Some-clause-undisturbed
returns-in-Some-clause-undisturbed g c = λ all p left input said none reads writes judge.
    let words = map string_bytes c.args.words.now in
    let word = c.args.word.now in
    let t = g.T.Texts.relations c.args.texts.now in
    let b = g.T.Texts.faults c.args.texts.now in
    let a = g.T.Texts.faults c.run_asked.new.texts in
    let before = g.K.Sink.written c.args.sink.now in
    let after = g.K.Sink.written c.run_asked.new.sink in
    let k : Asking = asking_of word words t b a in
    let same = same_asking word words c.in-Some.depth c.setting_of_words-setting.result t b a c.in-Some.ensures.exact c.setting_of_words-setting.ensures in
    let ends = subst (λ (k : Asking). EndsWord g.A.Comparing.answers k all before after c.run_asked.result) same (c.run_asked.ensures.ends all left) in
    undisturbed g.A.Comparing.answers k all before after p input none judge c.run_asked.result ends c.run_asked.ensures.built (λ e. reads (c.run_asked.ensures.read_fault e).0) (λ e. writes (c.run_asked.ensures.write_fault e))

pub returns-in-None-clause-undisturbed : goal.returns-in-None-clause-undisturbed
returns-in-None-clause-undisturbed g c = λ all p left input said none reads writes judge. absurd (said (sym c.in-None.ensures.exact))
