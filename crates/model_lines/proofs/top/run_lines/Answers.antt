use Rattle.std.proofs.Common.{◌≡◌, ◌≢◌, inl, inr, ℕ, List, Some, None, refl, sym, ◌∙◌, ap, subst, map, string_bytes}
use Rattle.std.specs.Prelude.{Option}
use Rattle.typify_run.specs.Call.{Call}
use Rattle.model_lines.specs.Outcome.{EndsLines}
use Rattle.model_lines.specs.Words.{call, call_of, depth_said}
use Rattle.model_lines.specs.declared.words.Asked.{Asked}
use Rattle.model_lines.proofs.Calls.{not_by_words, same_call}
use Rattle.model_lines.proofs.Promises.{admitted_page, no_document_ends, undisturbed}
use Rattle.model_lines.proofs.top.run_lines.Goals as goal

pub returns-in-Some-clause-words : goal.returns-in-Some-clause-words
returns-in-Some-clause-words g c =
    let o = c.run_stream.result in
    (λ e. absurd (not_by_words _ _ _ _ _ o.status o.report o.fault c.run_stream.ensures.ends e), λ e. let k : Some c.in-Some.depth ≡ None = c.in-Some.ensures.exact ∙ e in cc)

pub returns-in-Some-clause-other_words : goal.returns-in-Some-clause-other_words
returns-in-Some-clause-other_words g c = λ e. let o = c.run_stream.result in absurd (not_by_words _ _ _ _ _ o.status o.report o.fault c.run_stream.ensures.ends e)

pub returns-in-Some-clause-ends : goal.returns-in-Some-clause-ends
returns-in-Some-clause-ends g c = λ n.
    let o = c.run_stream.result in
    let words = map string_bytes c.args.words.now in
    let texts = g.T.Texts.relations c.args.texts.now in
    let faults = g.T.Texts.faults c.args.texts.now in
    let faults' = g.T.Texts.faults c.run_stream.new.texts in
    let said : Asked = record { depth = c.in-Some.depth; setting = c.setting_of_words.result } in
    subst (λ (k : Call). EndsLines k (g.S.Source.left c.args.source.now) (g.S.Source.left c.run_stream.new.source) (g.K.Sink.written c.args.sink.now) (g.K.Sink.written c.run_stream.new.sink) o.status o.report o.fault)
    (same_call said words texts faults faults' c.in-Some.ensures.exact c.setting_of_words.ensures) c.run_stream.ensures.ends

pub returns-in-Some-clause-admitted : goal.returns-in-Some-clause-admitted
returns-in-Some-clause-admitted g c = λ e lawful.
    let o = c.run_stream.result in
    let words = map string_bytes c.args.words.now in
    let texts = g.T.Texts.relations c.args.texts.now in
    let faults = g.T.Texts.faults c.args.texts.now in
    let faults' = g.T.Texts.faults c.run_stream.new.texts in
    let said : Asked = record { depth = c.in-Some.depth; setting = c.setting_of_words.result } in
    let asked = call_of words texts faults faults' in
    let left = g.S.Source.left c.args.source.now in
    let left' = g.S.Source.left c.run_stream.new.source in
    let before = g.K.Sink.written c.args.sink.now in
    let after = g.K.Sink.written c.run_stream.new.sink in
    let ends = subst (λ (k : Call). EndsLines k left left' before after o.status o.report o.fault) (same_call said words texts faults faults' c.in-Some.ensures.exact c.setting_of_words.ensures) c.run_stream.ensures.ends in
    admitted_page asked left before after o.report o.fault lawful (subst (λ (s : ℕ). EndsLines asked left left' before after s o.report o.fault) e ends)

pub returns-in-Some-clause-no_document : goal.returns-in-Some-clause-no_document
returns-in-Some-clause-no_document g c = λ all told none.
    let o = c.run_stream.result in
    let words = map string_bytes c.args.words.now in
    let texts = g.T.Texts.relations c.args.texts.now in
    let faults = g.T.Texts.faults c.args.texts.now in
    let faults' = g.T.Texts.faults c.run_stream.new.texts in
    let said : Asked = record { depth = c.in-Some.depth; setting = c.setting_of_words.result } in
    let asked = call_of words texts faults faults' in
    let left = g.S.Source.left c.args.source.now in
    let left' = g.S.Source.left c.run_stream.new.source in
    let before = g.K.Sink.written c.args.sink.now in
    let after = g.K.Sink.written c.run_stream.new.sink in
    let ends = subst (λ (k : Call). EndsLines k left left' before after o.status o.report o.fault) (same_call said words texts faults faults' c.in-Some.ensures.exact c.setting_of_words.ensures) c.run_stream.ensures.ends in
    inr (no_document_ends all asked left' before after o.status o.report o.fault none (subst (λ (l : Option (List ℕ)). EndsLines asked l left' before after o.status o.report o.fault) told ends))

pub returns-in-Some-clause-undisturbed : goal.returns-in-Some-clause-undisturbed
returns-in-Some-clause-undisturbed g c = λ all d told begins said_so faultless short reads writes judge.
    let o = c.run_stream.result in
    let words = map string_bytes c.args.words.now in
    let texts = g.T.Texts.relations c.args.texts.now in
    let faults = g.T.Texts.faults c.args.texts.now in
    let faults' = g.T.Texts.faults c.run_stream.new.texts in
    let said : Asked = record { depth = c.in-Some.depth; setting = c.setting_of_words.result } in
    let asked = call_of words texts faults faults' in
    let left = g.S.Source.left c.args.source.now in
    let left' = g.S.Source.left c.run_stream.new.source in
    let before = g.K.Sink.written c.args.sink.now in
    let after = g.K.Sink.written c.run_stream.new.sink in
    let ends = subst (λ (k : Call). EndsLines k left left' before after o.status o.report o.fault) (same_call said words texts faults faults' c.in-Some.ensures.exact c.setting_of_words.ensures) c.run_stream.ensures.ends in
    undisturbed all asked left' before after d begins faultless judge short o.status o.report o.fault (subst (λ (l : Option (List ℕ)). EndsLines asked l left' before after o.status o.report o.fault) told ends)
    (λ e. reads (c.run_stream.ensures.read_fault e)) (λ e. writes (c.run_stream.ensures.write_fault e))

pub returns-in-None-clause-undisturbed : goal.returns-in-None-clause-undisturbed
returns-in-None-clause-undisturbed g c = λ all d told begins said_so faultless short reads writes judge. absurd (said_so (sym c.in-None.ensures.exact))
