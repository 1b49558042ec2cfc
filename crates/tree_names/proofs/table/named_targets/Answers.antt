use Rattle.std.proofs.Common.{map}
use Rattle.tree_types.specs.View.{label_view, target_entry}
use Rattle.tree_names.proofs.Tables.{as_many, targets_do}
use Rattle.tree_names.proofs.table.named_targets.Goals as goal

pub labeled_targets-requires : goal.labeled_targets-requires
labeled_targets-requires c = as_many _ _ c.args.targets.now.items c.in_ok-labels.labels.items c.in_ok-names.ensures c.in_ok-labels.ensures

pub returns-clause-targets : goal.returns-clause-targets
returns-clause-targets c =
    (targets_do _ _ _ (map target_entry c.args.targets.now.items) (map label_view c.in_ok-labels.labels.items) (map target_entry c.in_ok-named.named.items) c.in_ok-names.ensures c.in_ok-labels.ensures c.in_ok-named.ensures).0

pub returns-clause-names : goal.returns-clause-names
returns-clause-names c =
    (targets_do _ _ _ (map target_entry c.args.targets.now.items) (map label_view c.in_ok-labels.labels.items) (map target_entry c.in_ok-named.named.items) c.in_ok-names.ensures c.in_ok-labels.ensures c.in_ok-named.ensures).1
