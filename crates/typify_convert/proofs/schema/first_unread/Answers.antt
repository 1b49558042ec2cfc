use Rattle.std.proofs.Common.{[], sym, ap, option_map, ◌∙◌}
use Rattle.schema_types.specs.View.{schema_view}
use Rattle.schema_tree.specs.Document.{view as document_seen}
use Rattle.merged_rows.specs.Starts.{spot_of}
use Rattle.convert_walks.specs.Tree.{tree_at}
use Rattle.convert_document.specs.Keeping.{unread_view}
use Rattle.convert_document.proofs.Roots.{none_listed}
use Rattle.history_laws.specs.Added.{targets_table}
use Rattle.typify_convert.proofs.Told.{if_err_mapped, listed_refused}
use Rattle.typify_convert.proofs.schema.first_unread.Goals as goal

pub returns-in-Some-clause-refused : goal.returns-in-Some-clause-refused
returns-in-Some-clause-refused g c =
    if_err_mapped c.unread_asked.result _ _
    (λ f k. listed_refused (g.T.Texts.relations c.args.texts.now) (document_seen c.args.document.now) c.args.depth c.args.levels (spot_of c.args.start.now [] (option_map (λ n. n.now) c.args.wanted)) (schema_view c.args.schema.now) _ _ _ _ (sym (ap (option_map unread_view) c.in-Some.is) ∙ c.requires.stated) k) c.unread_asked.ensures.refused

pub returns-in-None-clause-unread : goal.returns-in-None-clause-unread
returns-in-None-clause-unread g c =
    none_listed (g.T.Texts.relations c.args.texts.now) (document_seen c.args.document.now) (targets_table (g.T.Texts.relations c.args.texts.now) (document_seen c.args.document.now) c.args.depth c.args.levels)
    (tree_at (g.T.Texts.relations c.args.texts.now) (document_seen c.args.document.now) c.args.depth c.args.levels (spot_of c.args.start.now [] (option_map (λ n. n.now) c.args.wanted)) (schema_view c.args.schema.now)) (sym (ap (option_map unread_view) c.in-None.is) ∙ c.requires.stated)
