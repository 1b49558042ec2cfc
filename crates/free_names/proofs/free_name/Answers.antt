use Rattle.std.proofs.Common.{◌∙◌, ap, sym}
use Rattle.std.specs.BTreeSet.{contains_text}
use Rattle.free_names.proofs.Steps.{passed, found}
use Rattle.free_names.proofs.free_name.Goals as goal

pub returns-then-not-contains : goal.returns-then-not-contains
returns-then-not-contains c =
    let t = contains_text c.args.names.now in
    let name = sym c.in_ok-name.ensures ∙ sym c.as_str.ensures.value in
    let free = ap t name ∙ sym c.contains.ensures ∙ c.if-not-contains.true in
    c.in_ok-name.ensures ∙ sym (found c.args.prefix.now t c.args.count c.loop-number.number c.loop-number-test.true free) ∙ c.loop-number.invariant

pub loop-number-preserved : goal.loop-number-preserved
loop-number-preserved c =
    let t = contains_text c.args.names.now in
    let name = sym c.in_ok-name.ensures ∙ sym c.as_str.ensures.value in
    let taken = ap t name ∙ sym c.contains.ensures ∙ c.if-not-contains.false in
    sym (passed c.args.prefix.now t c.args.count c.loop-number.number c.loop-number-test.true taken) ∙ c.loop-number.invariant
