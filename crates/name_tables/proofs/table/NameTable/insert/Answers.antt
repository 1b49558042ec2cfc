use Rattle.std.proofs.Common.{sym, subst, arith, ◌∙◌}
use Rattle.std.specs.List.{insert}
use Rattle.name_tables.specs.Names.{IsRising, IsAt, IsGapFor}
use Rattle.name_tables.proofs.Names.{entered_is_kept, entered_is_inserted, rising_inserted}
use Rattle.name_tables.proofs.table.NameTable.insert.Goals as goal

-- the name keeps its place
pub returns-in-Ok-clause-ok : goal.returns-in-Ok-clause-ok
returns-in-Ok-clause-ok c =
    let at = subst (λ es. IsAt es c.args.name.now c.in-Ok.field-0) (c.deref.ensures.value ∙ c.self.view_is) (subst (λ n. IsAt c.deref.result.now n c.in-Ok.field-0) c.as_bytes.ensures.value c.in-Ok.ensures.found) in
    sym (entered_is_kept _ (subst IsRising c.self.view_is c.self.invariant) _ _ _ at)

-- the name is entered in the gap
pub returns-in_ok-insert-in-Err-clause-ok : goal.returns-in_ok-insert-in-Err-clause-ok
returns-in_ok-insert-in-Err-clause-ok c =
    let gap = subst (λ es. IsGapFor es c.args.name.now c.in-Err.at) (c.deref.ensures.value ∙ c.self.view_is) (subst (λ n. IsGapFor c.deref.result.now n c.in-Err.at) c.as_bytes.ensures.value c.in-Err.ensures.absent) in
    c.in_ok-insert-in-Err.ensures.items
    ∙ (λ k. insert (c.self.view_is k) c.in-Err.at (c.in_ok-name-in-Err.ensures k, c.args.place))
    ∙ sym (entered_is_inserted _ _ c.args.place c.in-Err.at gap)
