use Rattle.std.proofs.Common.{arith, inr, sym, ◌∙◌}
use Rattle.schema_tree.proofs.WideValues.{none_passed, one_passed, wide_here}
use Rattle.schema_tree.proofs.wide.check_values.Goals as goal

pub loop-index-init : goal.loop-index-init
loop-index-init c = none_passed c.args.values.now

pub returns-in-Ok-Some-clause-refusal : goal.returns-in-Ok-Some-clause-refusal
returns-in-Ok-Some-clause-refusal c =
    inr (wide_here c.args.values.now c.loop-index.index c.index-values-index.result (omega arith) c.index-values-index.is c.loop-index.invariant c.in-Ok-Some.path (sym c.in-Ok-Some.ensures ∙ c.in-Ok-Some.field-0-is))

pub loop-index-preserved : goal.loop-index-preserved
loop-index-preserved c =
    one_passed c.args.values.now c.loop-index.index c.index-values-index.result (omega arith) c.index-values-index.is c.loop-index.invariant (sym c.in-Ok-None.ensures ∙ c.in-Ok-None.field-0-is)
