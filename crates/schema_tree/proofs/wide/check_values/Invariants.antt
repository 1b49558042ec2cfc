use Rattle.schema_tree.proofs.WideValues.{ArePassed}
use Rattle.schema_tree.proofs.wide.check_values.Given as goal

abbrev pub invariant-loop-index : goal.invariant-loop-index
invariant-loop-index l = ArePassed l.index l.values
