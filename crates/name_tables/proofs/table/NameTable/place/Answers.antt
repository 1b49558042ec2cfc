use Rattle.std.proofs.Common.{sym, subst, arith, ◌∙◌, []}
use Rattle.std.proofs.lemmas.List.{get_or_default}
use Rattle.name_tables.specs.Names.{IsRising, IsAt, IsGapFor}
use Rattle.name_tables.proofs.Names.{found_at, not_found_at}
use Rattle.name_tables.proofs.table.NameTable.place.Goals as goal

-- the pair at its place is the one that was read
pub returns-in-Ok : goal.returns-in-Ok
returns-in-Ok c =
    let at = subst (λ es. IsAt es c.args.name.now c.in-Ok.at) (c.deref.ensures.value ∙ c.self.view_is) (subst (λ n. IsAt c.deref.result.now n c.in-Ok.at) c.as_bytes.ensures.value c.in-Ok.ensures.found) in
    let value = found_at _ (subst IsRising c.self.view_is c.self.invariant) _ _ at in
    let read = get_or_default _ _ c.index.result.now ([], 0) at.in_range in
    grind (arith, c.self.view_is)

-- the name is not there
pub returns-in-Err : goal.returns-in-Err
returns-in-Err c =
    sym (not_found_at _ _ _ (subst (λ es. IsGapFor es c.args.name.now c.in-Err.field-0) (c.deref.ensures.value ∙ c.self.view_is) (subst (λ n. IsGapFor c.deref.result.now n c.in-Err.field-0) c.as_bytes.ensures.value c.in-Err.ensures.absent)))
