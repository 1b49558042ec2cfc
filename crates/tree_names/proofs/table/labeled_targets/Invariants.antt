use Rattle.std.proofs.Common.{map, take, codes}
use Rattle.good_names.specs.Given.{Does}
use Rattle.tree_types.specs.View.{label_view, target_entry}
use Rattle.tree_names.specs.Seen.{targets_named, with_names}
use Rattle.tree_names.proofs.table.labeled_targets.Given as goal

abbrev pub invariant-loop-at : goal.invariant-loop-at
invariant-loop-at l = Does (codes "Type") l.fn.names l.names (map target_entry l.named.items) (targets_named (take l.at (with_names (map target_entry l.targets.items) (map label_view l.labels.items))))
