use Rattle.std.proofs.Common.{map, take, codes}
use Rattle.good_names.specs.Given.{Does}
use Rattle.tree_types.specs.View.{label_view, target_entry}
use Rattle.tree_names.specs.Seen.{targets_given}
use Rattle.tree_names.proofs.table.target_labels.Given as goal

abbrev pub invariant-loop-target : goal.invariant-loop-target
invariant-loop-target l = Does (codes "Type") l.fn.names l.names (map label_view l.labels.items) (targets_given (map target_entry (take l.target-index l.target-items)))
