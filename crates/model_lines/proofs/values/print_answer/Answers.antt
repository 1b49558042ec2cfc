use Rattle.std.proofs.Common.{◌≡◌, ℕ, List, Some, None, refl, sym, ◌∙◌, inl, inr, subst, string_bytes, true≢false}
use Rattle.schema_tree.specs.Fault.{fault_view}
use Rattle.run_io.specs.Bytes.{Appends}
use Rattle.model_lines.specs.Printing.{IsAnswerCut, IsCut, IsLineAnswered}
use Rattle.model_lines.specs.declared.ending.Ending.{Ending}
use Rattle.model_lines.proofs.Options.{none_map, some_map}
use Rattle.model_lines.proofs.Unjudged.{not_memory}
use Rattle.model_lines.proofs.values.print_answer.Goals as goal

pub returns-in-Ok-clause-whole : goal.returns-in-Ok-clause-whole
returns-in-Ok-clause-whole g c = λ l e.
    let old = g.K.Sink.written c.args.sink.now in
    let new = g.K.Sink.written c.print_text.new.sink in
    let bytes = string_bytes c.in-Ok.text in
    none_map c.print_text.result (Appends old new c.as_bytes.result.now) (IsLineAnswered (g.T.Texts.relations c.args.texts.now) c.args.report.now c.args.index l old new)
    (λ p. (bytes, c.in-Ok.ensures.told l e, subst (λ (t : List ℕ). Appends old new t) c.as_bytes.ensures.value p)) c.print_text.ensures.whole

pub returns-in-Ok-clause-cut : goal.returns-in-Ok-clause-cut
returns-in-Ok-clause-cut g c = λ l e.
    let old = g.K.Sink.written c.args.sink.now in
    let new = g.K.Sink.written c.print_text.new.sink in
    let bytes = string_bytes c.in-Ok.text in
    some_map c.print_text.result (λ x. IsCut old new c.as_bytes.result.now x)
    (λ x. IsAnswerCut (g.T.Texts.relations c.args.texts.now) c.args.report.now c.args.index l (g.T.Texts.faults c.args.texts.now) (g.T.Texts.faults c.text_of_line.new.texts) old new x)
    (λ x p. inl (bytes, c.in-Ok.ensures.told l e, subst (λ (t : List ℕ). IsCut old new t x) c.as_bytes.ensures.value p)) c.print_text.ensures.cut

pub returns-then-is_memory-clause-cut : goal.returns-then-is_memory-clause-cut
returns-then-is_memory-clause-cut g c = λ l e.
    let old = g.K.Sink.written c.args.sink.now in
    subst (λ (x : Ending). IsAnswerCut (g.T.Texts.relations c.args.texts.now) c.args.report.now c.args.index l (g.T.Texts.faults c.args.texts.now) (g.T.Texts.faults c.text_of_line.new.texts) old old x) (sym c.bare.ensures)
    (inr (inl (refl, refl, refl)))

pub print_fault-requires : goal.print_fault-requires
print_fault-requires g c = λ e. absurd (true≢false (sym (c.if-is_memory.ensures.1 e)))

pub returns-else-is_memory-clause-cut : goal.returns-else-is_memory-clause-cut
returns-else-is_memory-clause-cut g c = λ l e.
    let told = not_memory (g.T.Texts.faults c.args.texts.now) (g.T.Texts.faults c.text_of_line.new.texts) (fault_view c.in-Err.fault) (λ k. absurd (true≢false (sym (c.if-is_memory.ensures.1 k)))) c.in-Err.ensures.refused in
    inr (inr (c.in-Err.fault, told.0, told.1, c.print_fault.ensures.end))
