use Rattle.std.proofs.Common.{map, sym, ◌∙◌}
use Rattle.schema_tree.specs.Document.{view as document_seen}
use Rattle.tree_types.specs.View.{target_entry}
use Rattle.convert_document.proofs.Ends.{if_err}
use Rattle.typify_convert.proofs.Told.{no_root_targets, no_root_told, a_root_begins, a_root_targets, a_root_told, a_root_refused}
use Rattle.typify_convert.proofs.collect.with_root.Goals as goal

pub with_used_root-requires : goal.with_used_root-requires
with_used_root-requires g c = a_root_begins (g.T.Texts.relations c.args.texts.now) (document_seen c.args.document.now) c.args.depth c.args.levels _ _ (sym c.refers_to_root.ensures ∙ c.if-refers_to_root.true) c.requires

pub returns-then-refers_to_root-clause-targets : goal.returns-then-refers_to_root-clause-targets
returns-then-refers_to_root-clause-targets g c =
    a_root_targets (g.T.Texts.relations c.args.texts.now) (document_seen c.args.document.now) c.args.depth c.args.levels (map target_entry c.args.targets.items) (map target_entry c.in_ok-all.all.items) _ (sym c.refers_to_root.ensures ∙ c.if-refers_to_root.true) c.in_ok-all.ensures.targets

pub returns-then-refers_to_root-clause-told : goal.returns-then-refers_to_root-clause-told
returns-then-refers_to_root-clause-told g c = a_root_told (g.T.Texts.relations c.args.texts.now) (document_seen c.args.document.now) c.args.depth c.args.levels _ _ _ (sym c.refers_to_root.ensures ∙ c.if-refers_to_root.true) c.in_ok-all.ensures.told

pub returns-in_err-all-clause-refused : goal.returns-in_err-all-clause-refused
returns-in_err-all-clause-refused g c =
    if_err c.from_residual.result c.in_err-all.field-0.0 _ c.from_residual.ensures.1
    (a_root_refused (g.T.Texts.relations c.args.texts.now) (document_seen c.args.document.now) c.args.depth c.args.levels _ _ _ _ (sym c.refers_to_root.ensures ∙ c.if-refers_to_root.true) c.in_err-all.ensures.refused)

pub returns-clause-targets : goal.returns-clause-targets
returns-clause-targets g c = no_root_targets (g.T.Texts.relations c.args.texts.now) (document_seen c.args.document.now) c.args.depth c.args.levels (map target_entry c.args.targets.items) _ (sym c.refers_to_root.ensures ∙ c.if-refers_to_root.false)

pub returns-clause-told : goal.returns-clause-told
returns-clause-told g c = no_root_told (g.T.Texts.relations c.args.texts.now) (document_seen c.args.document.now) c.args.depth c.args.levels _ _ (sym c.refers_to_root.ensures ∙ c.if-refers_to_root.false)
