use Rattle.std.proofs.Common.{sym, ap, option_map, ◌∙◌}
use Rattle.schema_tree.specs.Document.{view as document_seen}
use Rattle.entry_types.specs.View.{id_view}
use Rattle.tree_types.specs.View.{target_view}
use Rattle.convert_document.proofs.Ends.{if_err}
use Rattle.convert_document.proofs.Telling.{want_refuses}
use Rattle.typify_convert.proofs.Told.{item_added, item_fine}
use Rattle.typify_convert.proofs.schema.add_schema.Goals as goal

pub convert_schema-requires : goal.convert_schema-requires
convert_schema-requires g c = sym c.in_ok-target.ensures.target ∙ ap (option_map target_view) c.in-None.is

pub returns-in_ok-id-in-Some-clause-added : goal.returns-in_ok-id-in-Some-clause-added
returns-in_ok-id-in-Some-clause-added g c h keeps =
    item_added (g.T.Texts.relations c.args.texts.now) (document_seen c.args.document.now) c.args.depth c.args.levels c.args.at.now (option_map (λ n. n.now) c.args.name) c.args.held.now (id_view c.in_ok-id-in-Some.id) (option_map target_view c.in_ok-target.target)
    (target_view c.in-Some.target) c.in_ok-target.ensures.target (ap (option_map target_view) c.in-Some.is) c.in_ok-id-in-Some.ensures.id h keeps

pub returns-in_ok-id-in-Some-clause-fine : goal.returns-in_ok-id-in-Some-clause-fine
returns-in_ok-id-in-Some-clause-fine g c =
    item_fine (g.T.Texts.relations c.args.texts.now) (document_seen c.args.document.now) c.args.depth c.args.levels c.args.at.now (option_map (λ n. n.now) c.args.name) (option_map target_view c.in_ok-target.target) (target_view c.in-Some.target)
    c.in_ok-target.ensures.target (ap (option_map target_view) c.in-Some.is)

pub returns-in_err-target-clause-refused : goal.returns-in_err-target-clause-refused
returns-in_err-target-clause-refused g c =
    if_err c.from_residual.result c.in_err-target.field-0.0 _ c.from_residual.ensures.1 (want_refuses _ _ _ _ _ _ _ _ c.in_err-target.ensures.memory)

pub returns-in_err-id-in-Some-clause-refused : goal.returns-in_err-id-in-Some-clause-refused
returns-in_err-id-in-Some-clause-refused g c =
    if_err c.from_residual-in_err-id-in-Some.result c.in_err-id-in-Some.field-0.0 _ c.from_residual-in_err-id-in-Some.ensures.1 (want_refuses _ _ _ _ _ _ _ _ c.in_err-id-in-Some.ensures.memory)
