use Rattle.std.proofs.Common.{◌≡◌, ◌≢◌, ℕ, List, [], length, sym, ap, subst, ◌∙◌}
use Rattle.std.proofs.lemmas.Bool.{eqb-false, eqb-true}
use Rattle.std.proofs.lemmas.List.{nil_from_length}
use Rattle.rust_tokens.specs.Groups.{Level, levels, brackets, FaultLeft, IsLeftAtFault}
use Rattle.rust_tokens.proofs.Steps.{at_fault, at_end_inside}
use Rattle.rust_tokens.proofs.lexer.read_trees.Goals as goal

pub returns-in-None-clause-fault : goal.returns-in-None-clause-fault
returns-in-None-clause-fault c =
    let l = rw c.in-None.is at c.in_ok-read_token.ensures.levels in
    let f = rw c.in-None.is at c.in_ok-read_token.ensures.first in
    let stuck = rw c.in-None.is at c.in_ok-read_token.ensures.stuck in
    let rest = c.loop-rest.rest.now in
    let left = c.in_ok-fault-in-None.field-0 in
    let some : rest ≢ [] = λ e. eqb-false (length rest) 0 (sym c.is_empty.ensures ∙ c.loop-rest-test.true) (ap length e) in
    let L : List Level → Type 0 = λ ls. IsLeftAtFault (brackets ls []) rest c.read_token.new.groups.first left in
    let F : ℕ → Type 0 = λ n. IsLeftAtFault (brackets (levels c.loop-rest.groups) []) rest n left in
    at_fault c.args.chars.now c.args.span _ _ _ rest left c.loop-rest.invariant stuck some (subst F f (subst L l c.in_ok-fault-in-None.ensures))

pub returns-in-Err-clause-fault : goal.returns-in-Err-clause-fault
returns-in-Err-clause-fault c =
    let none : c.loop-rest.rest.now ≡ [] = nil_from_length c.loop-rest.rest.now (eqb-true (length c.loop-rest.rest.now) 0 (sym c.is_empty.ensures ∙ c.loop-rest-test.false)) in
    let P : ℕ → Type 0 = FaultLeft c.args.chars.now in
    subst P (sym c.in-Err.ensures.first) (at_end_inside c.args.chars.now c.args.span _ _ _ c.loop-rest.rest.now none c.in-Err.ensures.unclosed c.loop-rest.invariant)
