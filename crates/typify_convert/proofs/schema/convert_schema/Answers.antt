use Rattle.std.proofs.Common.{option_map, sym}
use Rattle.schema_types.specs.View.{schema_view}
use Rattle.schema_tree.specs.Document.{view as document_seen}
use Rattle.entry_types.specs.View.{id_view}
use Rattle.convert_document.proofs.Ends.{if_err}
use Rattle.convert_document.proofs.Telling.{want_refuses}
use Rattle.typify_convert.proofs.Told.{schema_added, schema_fine, schema_refused}
use Rattle.typify_convert.proofs.schema.convert_schema.Goals as goal

pub returns-clause-added : goal.returns-clause-added
returns-clause-added g c h keeps =
    schema_added (g.T.Texts.relations c.args.texts.now) (document_seen c.args.document.now) c.args.depth c.args.levels c.args.at.now (option_map (λ n. n.now) c.args.name) c.requires (schema_view c.in_ok-schema.schema.now) (sym c.in_ok-schema.ensures.schema) (option_map (λ n. n.now) c.name_at-wanted.result) _ (c.in_ok-start.ensures.place (option_map (λ n. n.now) c.name_at-wanted.result)) c.name_at-wanted.ensures c.args.held.now _ (id_view c.in_ok-id.id) h
    (c.in_ok-id.ensures.added h keeps)

pub returns-clause-fine : goal.returns-clause-fine
returns-clause-fine g c = schema_fine (g.T.Texts.relations c.args.texts.now) (document_seen c.args.document.now) c.args.depth c.args.levels c.args.at.now (option_map (λ n. n.now) c.args.name) c.requires (schema_view c.in_ok-schema.schema.now) (sym c.in_ok-schema.ensures.schema) (option_map (λ n. n.now) c.name_at-wanted.result) _ (c.in_ok-start.ensures.place (option_map (λ n. n.now) c.name_at-wanted.result)) c.name_at-wanted.ensures c.in_ok-id.ensures.fine

pub returns-in_err-schema-clause-refused : goal.returns-in_err-schema-clause-refused
returns-in_err-schema-clause-refused g c =
    if_err c.from_residual.result c.in_err-schema.field-0.0 _ c.from_residual.ensures.1 (want_refuses _ _ _ _ _ _ _ _ c.in_err-schema.ensures.memory)

pub returns-in_err-start-clause-refused : goal.returns-in_err-start-clause-refused
returns-in_err-start-clause-refused g c =
    if_err c.from_residual-in_err-start.result c.in_err-start.field-0.0 _ c.from_residual-in_err-start.ensures.1 (want_refuses _ _ _ _ _ _ _ _ c.in_err-start.ensures.memory)

pub returns-in_err-merges-clause-refused : goal.returns-in_err-merges-clause-refused
returns-in_err-merges-clause-refused g c =
    if_err c.from_residual-in_err-merges.result c.in_err-merges.field-0.0 _ c.from_residual-in_err-merges.ensures.1 (want_refuses _ _ _ _ _ _ _ _ c.in_err-merges.ensures.memory)

pub returns-in_err-id-clause-refused : goal.returns-in_err-id-clause-refused
returns-in_err-id-clause-refused g c =
    if_err c.from_residual-in_err-id.result c.in_err-id.field-0.0 _ c.from_residual-in_err-id.ensures.1
    (schema_refused (g.T.Texts.relations c.args.texts.now) (document_seen c.args.document.now) c.args.depth c.args.levels c.args.at.now (option_map (λ n. n.now) c.args.name) c.requires (schema_view c.in_ok-schema.schema.now) (sym c.in_ok-schema.ensures.schema) (option_map (λ n. n.now) c.name_at-wanted.result) _ (c.in_ok-start.ensures.place (option_map (λ n. n.now) c.name_at-wanted.result)) c.name_at-wanted.ensures _ _ _ c.in_err-id.ensures.refused)
