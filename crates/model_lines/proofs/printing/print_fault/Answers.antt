use Rattle.std.proofs.Common.{◌≡◌, List, ℕ, refl, sym, ◌∙◌, inl, inr, subst}
use Rattle.run_io.specs.Bytes.{Appends, AppendsPrefix}
use Rattle.model_lines.specs.Printing.{IsFaultEnd}
use Rattle.model_lines.specs.declared.ending.Ending.{Ending}
use Rattle.model_lines.proofs.printing.print_fault.Goals as goal

pub returns-in_default-clause-end : goal.returns-in_default-clause-end
returns-in_default-clause-end g c =
    let old = g.K.Sink.written c.args.sink.now in
    subst (λ (e : Ending). IsFaultEnd old old c.args.fault e) (sym c.bare.ensures) (inr (inr (refl, refl, refl)))

pub returns-in-Ok-put-clause-end : goal.returns-in-Ok-put-clause-end
returns-in-Ok-put-clause-end g c =
    let old = g.K.Sink.written c.args.sink.now in
    let new = g.K.Sink.written c.put.new.sink in
    subst (λ (e : Ending). IsFaultEnd old new c.args.fault e) (sym c.told.ensures)
    (inl (refl, refl, subst (λ (t : List ℕ). Appends old new t) (c.as_bytes.ensures.value ∙ c.in-Ok.ensures) c.in-Ok-put.ensures.whole))

pub returns-in-Err-Failed-clause-end : goal.returns-in-Err-Failed-clause-end
returns-in-Err-Failed-clause-end g c =
    let old = g.K.Sink.written c.args.sink.now in
    let new = g.K.Sink.written c.put.new.sink in
    subst (λ (e : Ending). IsFaultEnd old new c.args.fault e) (sym c.told-in-Err-Failed.ensures)
    (inr (inl (inl refl, refl, subst (λ (t : List ℕ). AppendsPrefix old new t) (c.as_bytes.ensures.value ∙ c.in-Ok.ensures) c.in-Err-Failed.ensures.front)))

pub returns-clause-end : goal.returns-clause-end
returns-clause-end g c =
    let old = g.K.Sink.written c.args.sink.now in
    let new = g.K.Sink.written c.put.new.sink in
    subst (λ (e : Ending). IsFaultEnd old new c.args.fault e) (sym c.told-in-Err-Memory.ensures)
    (inr (inl (inr refl, refl, subst (λ (t : List ℕ). AppendsPrefix old new t) (c.as_bytes.ensures.value ∙ c.in-Ok.ensures) c.in-Err-Memory.ensures.front)))
