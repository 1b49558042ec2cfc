use Rattle.std.proofs.Common.{map}
use Rattle.schema_tree.specs.Document.{view as document_seen}
use Rattle.tree_types.specs.View.{table_view, target_entry}
use Rattle.convert_document.proofs.Ends.{if_err}
use Rattle.typify_convert.proofs.Told.{all_told, all_targets, definitions_begin, root_begins, first_refuses, second_refuses}
use Rattle.typify_convert.proofs.collect.targets_with.Goals as goal

pub definition_targets-requires : goal.definition_targets-requires
definition_targets-requires g c = definitions_begin (g.T.Texts.relations c.args.texts.now) (document_seen c.args.document.now) c.args.depth c.args.levels _ c.requires

pub with_root-requires : goal.with_root-requires
with_root-requires g c = root_begins (g.T.Texts.relations c.args.texts.now) (document_seen c.args.document.now) c.args.depth c.args.levels _ _ _ c.in_ok-definitions.ensures.keeps c.in_ok-definitions.ensures.told c.requires

pub returns-clause-table : goal.returns-clause-table
returns-clause-table g c =
    all_targets (g.T.Texts.relations c.args.texts.now) (document_seen c.args.document.now) c.args.depth c.args.levels (g.T.Texts.relations c.definition_targets.new.texts) (map target_entry c.in_ok-definitions.definitions.items)
    (map target_entry c.in_ok-targets.targets.items) (table_view c.alone-table.result) c.in_ok-definitions.ensures.keeps c.in_ok-definitions.ensures.targets c.in_ok-targets.ensures.targets c.alone-table.ensures

pub returns-clause-told : goal.returns-clause-told
returns-clause-told g c =
    all_told (g.T.Texts.relations c.args.texts.now) (document_seen c.args.document.now) c.args.depth c.args.levels (g.T.Texts.relations c.definition_targets.new.texts) _ _ _ c.in_ok-definitions.ensures.keeps c.in_ok-definitions.ensures.told c.in_ok-targets.ensures.told

pub returns-in_err-definitions-clause-refused : goal.returns-in_err-definitions-clause-refused
returns-in_err-definitions-clause-refused g c =
    if_err c.from_residual.result c.in_err-definitions.field-0.0 _ c.from_residual.ensures.1 (first_refuses (g.T.Texts.relations c.args.texts.now) (document_seen c.args.document.now) c.args.depth c.args.levels _ _ _ c.in_err-definitions.ensures.refused)

pub returns-in_err-targets-clause-refused : goal.returns-in_err-targets-clause-refused
returns-in_err-targets-clause-refused g c =
    if_err c.from_residual-in_err-targets.result c.in_err-targets.field-0.0 _ c.from_residual-in_err-targets.ensures.1
    (second_refuses (g.T.Texts.relations c.args.texts.now) (document_seen c.args.document.now) c.args.depth c.args.levels _ (g.T.Texts.relations c.definition_targets.new.texts) _ _ _ _ _ c.in_ok-definitions.ensures.keeps
    c.in_ok-definitions.ensures.counts c.in_ok-definitions.ensures.told c.in_err-targets.ensures.refused)
