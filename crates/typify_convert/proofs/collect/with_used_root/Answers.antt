use Rattle.std.proofs.Common.{map, ap, ◌∙◌}
use Rattle.convert_defs.specs.Convert.{root_name}
use Rattle.schema_tree.specs.Document.{view as document_seen}
use Rattle.tree_types.specs.View.{target_entry, tree_view}
use Rattle.convert_document.proofs.Ends.{if_err}
use Rattle.convert_document.proofs.Telling.{want_refuses}
use Rattle.typify_convert.proofs.Told.{item_targets}
use Rattle.typify_convert.proofs.collect.with_used_root.Goals as goal

pub returns-clause-targets : goal.returns-clause-targets
returns-clause-targets g c =
    item_targets (g.T.Texts.relations c.args.texts.now) (document_seen c.args.document.now) c.args.depth c.args.levels (map target_entry c.args.targets.items) (map target_entry c.in_ok-all.all.items) c.root_name-name.result.now (tree_view c.in_ok-tree.tree)
    (c.root_name-name.ensures ∙ ap root_name c.root.ensures) c.in_ok-tree.ensures.entry c.in_ok-all.ensures.targets

pub returns-in_err-all-clause-refused : goal.returns-in_err-all-clause-refused
returns-in_err-all-clause-refused g c =
    if_err c.from_residual-in_err-all.result c.in_err-all.field-0.0 _ c.from_residual-in_err-all.ensures.1 (want_refuses _ _ _ _ _ _ _ _ c.in_err-all.ensures.memory)
