use Rattle.std.proofs.Common.{inl, inr, ◌⊎◌, ◌≡◌, ℕ, sym, subst, map, string_bytes}
use Rattle.typify_run.specs.Call.{Call, call_of}
use Rattle.typify_run.specs.Outcome.{EndsReading, IsCarried, IsCutShort}
use Rattle.typify_run.specs.declared.words.Asked.{Asked}
use Rattle.typify_run.proofs.Calls.{same_call}
use Rattle.typify_run.proofs.Statuses.{report_printed, fault_printed, no_input, writing_cut, memory_spent, refused, not_built, faulty}
use Rattle.typify_run.proofs.Plainly.{ends_plainly, no_words, plain_is_faultless, printed_or_spent}
use Rattle.typify_run.proofs.top.run.Goals as goal

-- words of none of the forms may stand in between
aside : (status : ℕ) → (status ≡ 3) ⊎ IsCutShort status → (status ≡ 2) ⊎ ((status ≡ 3) ⊎ IsCutShort status)
aside status h = inr h

between : (status : ℕ) → (status ≡ 1) ⊎ IsCutShort status → (status ≡ 1) ⊎ ((status ≡ 2) ⊎ IsCutShort status)
between status (inl h) = inl h
between status (inr h) = inr (inr h)

pub returns-in-Some-clause-carried : goal.returns-in-Some-clause-carried
returns-in-Some-clause-carried g c =
    let o = c.run_command.result in
    let words = map string_bytes c.args.words.now in
    let texts = g.T.Texts.relations c.args.texts.now in
    let faults = g.T.Texts.faults c.args.texts.now in
    let faults' = g.T.Texts.faults c.run_command.new.texts in
    let before = g.K.Sink.written c.args.sink.now in
    let after = g.K.Sink.written c.run_command.new.sink in
    let asked = call_of words texts faults faults' in
    let said : Asked = record { command = c.command_of_words.result; depth = c.in-Some.depth; setting = c.setting_of_words.result } in
    let same = same_call said words texts faults faults' c.command_of_words.ensures c.in-Some.ensures.exact c.setting_of_words.ensures in
    subst (λ (k : Call). IsCarried k before after o.status o.report o.fault) same c.run_command.ensures.carried

pub returns-in-Some-clause-report : goal.returns-in-Some-clause-report
returns-in-Some-clause-report g c = λ all left e.
    let o = c.run_command.result in
    let words = map string_bytes c.args.words.now in
    let texts = g.T.Texts.relations c.args.texts.now in
    let faults = g.T.Texts.faults c.args.texts.now in
    let faults' = g.T.Texts.faults c.run_command.new.texts in
    let before = g.K.Sink.written c.args.sink.now in
    let after = g.K.Sink.written c.run_command.new.sink in
    let asked = call_of words texts faults faults' in
    let said : Asked = record { command = c.command_of_words.result; depth = c.in-Some.depth; setting = c.setting_of_words.result } in
    let same = same_call said words texts faults faults' c.command_of_words.ensures c.in-Some.ensures.exact c.setting_of_words.ensures in
    let ends = subst (λ (k : Call). EndsReading k all before after o.status o.report o.fault) same (c.run_command.ensures.ends all left) in
    report_printed asked all before after o.status o.report o.fault ends e

pub returns-in-Some-clause-fault : goal.returns-in-Some-clause-fault
returns-in-Some-clause-fault g c = λ all left e.
    let o = c.run_command.result in
    let words = map string_bytes c.args.words.now in
    let texts = g.T.Texts.relations c.args.texts.now in
    let faults = g.T.Texts.faults c.args.texts.now in
    let faults' = g.T.Texts.faults c.run_command.new.texts in
    let before = g.K.Sink.written c.args.sink.now in
    let after = g.K.Sink.written c.run_command.new.sink in
    let asked = call_of words texts faults faults' in
    let said : Asked = record { command = c.command_of_words.result; depth = c.in-Some.depth; setting = c.setting_of_words.result } in
    let same = same_call said words texts faults faults' c.command_of_words.ensures c.in-Some.ensures.exact c.setting_of_words.ensures in
    let ends = subst (λ (k : Call). EndsReading k all before after o.status o.report o.fault) same (c.run_command.ensures.ends all left) in
    fault_printed asked all before after o.status o.report o.fault ends e

pub returns-in-Some-clause-no_input : goal.returns-in-Some-clause-no_input
returns-in-Some-clause-no_input g c = λ all left e.
    let o = c.run_command.result in
    let words = map string_bytes c.args.words.now in
    let texts = g.T.Texts.relations c.args.texts.now in
    let faults = g.T.Texts.faults c.args.texts.now in
    let faults' = g.T.Texts.faults c.run_command.new.texts in
    let before = g.K.Sink.written c.args.sink.now in
    let after = g.K.Sink.written c.run_command.new.sink in
    let asked = call_of words texts faults faults' in
    let said : Asked = record { command = c.command_of_words.result; depth = c.in-Some.depth; setting = c.setting_of_words.result } in
    let same = same_call said words texts faults faults' c.command_of_words.ensures c.in-Some.ensures.exact c.setting_of_words.ensures in
    let ends = subst (λ (k : Call). EndsReading k all before after o.status o.report o.fault) same (c.run_command.ensures.ends all left) in
    no_input asked all before after o.status o.report o.fault ends e

pub returns-in-Some-clause-writing_cut : goal.returns-in-Some-clause-writing_cut
returns-in-Some-clause-writing_cut g c = λ all left e.
    let o = c.run_command.result in
    let words = map string_bytes c.args.words.now in
    let texts = g.T.Texts.relations c.args.texts.now in
    let faults = g.T.Texts.faults c.args.texts.now in
    let faults' = g.T.Texts.faults c.run_command.new.texts in
    let before = g.K.Sink.written c.args.sink.now in
    let after = g.K.Sink.written c.run_command.new.sink in
    let asked = call_of words texts faults faults' in
    let said : Asked = record { command = c.command_of_words.result; depth = c.in-Some.depth; setting = c.setting_of_words.result } in
    let same = same_call said words texts faults faults' c.command_of_words.ensures c.in-Some.ensures.exact c.setting_of_words.ensures in
    let ends = subst (λ (k : Call). EndsReading k all before after o.status o.report o.fault) same (c.run_command.ensures.ends all left) in
    writing_cut asked all before after o.status o.report o.fault ends e

pub returns-in-Some-clause-memory : goal.returns-in-Some-clause-memory
returns-in-Some-clause-memory g c = λ all left e.
    let o = c.run_command.result in
    let words = map string_bytes c.args.words.now in
    let texts = g.T.Texts.relations c.args.texts.now in
    let faults = g.T.Texts.faults c.args.texts.now in
    let faults' = g.T.Texts.faults c.run_command.new.texts in
    let before = g.K.Sink.written c.args.sink.now in
    let after = g.K.Sink.written c.run_command.new.sink in
    let asked = call_of words texts faults faults' in
    let said : Asked = record { command = c.command_of_words.result; depth = c.in-Some.depth; setting = c.setting_of_words.result } in
    let same = same_call said words texts faults faults' c.command_of_words.ensures c.in-Some.ensures.exact c.setting_of_words.ensures in
    let ends = subst (λ (k : Call). EndsReading k all before after o.status o.report o.fault) same (c.run_command.ensures.ends all left) in
    memory_spent asked all before after o.status o.report o.fault ends e

pub returns-in-Some-clause-refused : goal.returns-in-Some-clause-refused
returns-in-Some-clause-refused g c = λ all left none.
    let o = c.run_command.result in
    let words = map string_bytes c.args.words.now in
    let texts = g.T.Texts.relations c.args.texts.now in
    let faults = g.T.Texts.faults c.args.texts.now in
    let faults' = g.T.Texts.faults c.run_command.new.texts in
    let before = g.K.Sink.written c.args.sink.now in
    let after = g.K.Sink.written c.run_command.new.sink in
    let asked = call_of words texts faults faults' in
    let said : Asked = record { command = c.command_of_words.result; depth = c.in-Some.depth; setting = c.setting_of_words.result } in
    let same = same_call said words texts faults faults' c.command_of_words.ensures c.in-Some.ensures.exact c.setting_of_words.ensures in
    let ends = subst (λ (k : Call). EndsReading k all before after o.status o.report o.fault) same (c.run_command.ensures.ends all left) in
    aside o.status (refused asked all before after o.status o.report o.fault ends none)

pub returns-in-Some-clause-not_built : goal.returns-in-Some-clause-not_built
returns-in-Some-clause-not_built g c = λ all parts left input other.
    let o = c.run_command.result in
    let words = map string_bytes c.args.words.now in
    let texts = g.T.Texts.relations c.args.texts.now in
    let faults = g.T.Texts.faults c.args.texts.now in
    let faults' = g.T.Texts.faults c.run_command.new.texts in
    let before = g.K.Sink.written c.args.sink.now in
    let after = g.K.Sink.written c.run_command.new.sink in
    let asked = call_of words texts faults faults' in
    let said : Asked = record { command = c.command_of_words.result; depth = c.in-Some.depth; setting = c.setting_of_words.result } in
    let same = same_call said words texts faults faults' c.command_of_words.ensures c.in-Some.ensures.exact c.setting_of_words.ensures in
    let ends = subst (λ (k : Call). EndsReading k all before after o.status o.report o.fault) same (c.run_command.ensures.ends all left) in
    between o.status (not_built asked all before after o.status o.report o.fault ends parts input other)

pub returns-in-Some-clause-faulty : goal.returns-in-Some-clause-faulty
returns-in-Some-clause-faulty g c = λ all parts f left input cause.
    let o = c.run_command.result in
    let words = map string_bytes c.args.words.now in
    let texts = g.T.Texts.relations c.args.texts.now in
    let faults = g.T.Texts.faults c.args.texts.now in
    let faults' = g.T.Texts.faults c.run_command.new.texts in
    let before = g.K.Sink.written c.args.sink.now in
    let after = g.K.Sink.written c.run_command.new.sink in
    let asked = call_of words texts faults faults' in
    let said : Asked = record { command = c.command_of_words.result; depth = c.in-Some.depth; setting = c.setting_of_words.result } in
    let same = same_call said words texts faults faults' c.command_of_words.ensures c.in-Some.ensures.exact c.setting_of_words.ensures in
    let ends = subst (λ (k : Call). EndsReading k all before after o.status o.report o.fault) same (c.run_command.ensures.ends all left) in
    between o.status (faulty asked all before after o.status o.report o.fault ends parts f input cause)

-- ---- plain documents, and where nothing disturbs a run

pub returns-in-Some-clause-plain : goal.returns-in-Some-clause-plain
returns-in-Some-clause-plain g c = λ all parts left input plain.
    let o = c.run_command.result in
    let words = map string_bytes c.args.words.now in
    let texts = g.T.Texts.relations c.args.texts.now in
    let faults = g.T.Texts.faults c.args.texts.now in
    let faults' = g.T.Texts.faults c.run_command.new.texts in
    let before = g.K.Sink.written c.args.sink.now in
    let after = g.K.Sink.written c.run_command.new.sink in
    let asked = call_of words texts faults faults' in
    let said : Asked = record { command = c.command_of_words.result; depth = c.in-Some.depth; setting = c.setting_of_words.result } in
    let same = same_call said words texts faults faults' c.command_of_words.ensures c.in-Some.ensures.exact c.setting_of_words.ensures in
    let ends = subst (λ (k : Call). EndsReading k all before after o.status o.report o.fault) same (c.run_command.ensures.ends all left) in
    ends_plainly asked all before after o.status o.report o.fault ends parts input plain

pub returns-in-Some-clause-undisturbed : goal.returns-in-Some-clause-undisturbed
returns-in-Some-clause-undisturbed g c = λ all parts left input built none reads writes judge.
    let o = c.run_command.result in
    let words = map string_bytes c.args.words.now in
    let texts = g.T.Texts.relations c.args.texts.now in
    let faults = g.T.Texts.faults c.args.texts.now in
    let faults' = g.T.Texts.faults c.run_command.new.texts in
    let before = g.K.Sink.written c.args.sink.now in
    let after = g.K.Sink.written c.run_command.new.sink in
    let asked = call_of words texts faults faults' in
    let said : Asked = record { command = c.command_of_words.result; depth = c.in-Some.depth; setting = c.setting_of_words.result } in
    let same = same_call said words texts faults faults' c.command_of_words.ensures c.in-Some.ensures.exact c.setting_of_words.ensures in
    let ends = subst (λ (k : Call). EndsReading k all before after o.status o.report o.fault) same (c.run_command.ensures.ends all left) in
    printed_or_spent asked all before after parts input none judge o.status o.report o.fault ends (λ e. reads (c.run_command.ensures.read_fault e).0) (λ e. writes (c.run_command.ensures.write_fault e))

pub returns-in-Some-clause-plain_undisturbed : goal.returns-in-Some-clause-plain_undisturbed
returns-in-Some-clause-plain_undisturbed g c = λ all parts left input plain reads writes judge.
    let o = c.run_command.result in
    let words = map string_bytes c.args.words.now in
    let texts = g.T.Texts.relations c.args.texts.now in
    let faults = g.T.Texts.faults c.args.texts.now in
    let faults' = g.T.Texts.faults c.run_command.new.texts in
    let before = g.K.Sink.written c.args.sink.now in
    let after = g.K.Sink.written c.run_command.new.sink in
    let asked = call_of words texts faults faults' in
    let said : Asked = record { command = c.command_of_words.result; depth = c.in-Some.depth; setting = c.setting_of_words.result } in
    let same = same_call said words texts faults faults' c.command_of_words.ensures c.in-Some.ensures.exact c.setting_of_words.ensures in
    let ends = subst (λ (k : Call). EndsReading k all before after o.status o.report o.fault) same (c.run_command.ensures.ends all left) in
    printed_or_spent asked all before after parts input (plain_is_faultless asked all parts input plain) judge o.status o.report o.fault ends (λ e. reads (c.run_command.ensures.read_fault e).0) (λ e. writes (c.run_command.ensures.write_fault e))

pub returns-in-None-clause-plain : goal.returns-in-None-clause-plain
returns-in-None-clause-plain g c = λ all parts left input plain.
    absurd (no_words (map string_bytes c.args.words.now) (g.T.Texts.relations c.args.texts.now) (g.T.Texts.faults c.args.texts.now) (g.T.Texts.faults c.args.texts.now) parts c.in-None.ensures.exact plain)

pub returns-in-None-clause-undisturbed : goal.returns-in-None-clause-undisturbed
returns-in-None-clause-undisturbed g c = λ all parts left input built none reads writes judge. absurd (built (sym c.in-None.ensures.exact))

pub returns-in-None-clause-plain_undisturbed : goal.returns-in-None-clause-plain_undisturbed
returns-in-None-clause-plain_undisturbed g c = λ all parts left input plain reads writes judge.
    absurd (no_words (map string_bytes c.args.words.now) (g.T.Texts.relations c.args.texts.now) (g.T.Texts.faults c.args.texts.now) (g.T.Texts.faults c.args.texts.now) parts c.in-None.ensures.exact plain)
