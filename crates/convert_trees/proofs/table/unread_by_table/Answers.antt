use Rattle.std.proofs.Common.{ap, ◌∙◌}
use Rattle.std.specs.Prelude.{Some}
use Rattle.schema_tree.specs.Document.{view as document_seen}
use Rattle.tree_types.specs.View.{table_view}
use Rattle.convert_trees.specs.Keeping.{KeptD, kept_view}
use Rattle.convert_trees.proofs.Roots.{all_values, begins_all}
use Rattle.convert_trees.proofs.table.unread_by_table.Goals as goal

pub table_with-requires : goal.table_with-requires
table_with-requires g c =
    begins_all _ _ (ap (λ (k : KeptD). k.merges) c.nothing_kept-kept.ensures ∙ c.requires)

pub returns-clause-unread : goal.returns-clause-unread
returns-clause-unread g c =
    all_values (g.T.Texts.relations c.args.texts.now) (document_seen c.args.document.now) c.args.depth c.args.levels (Some (table_view c.args.table.now)) _ (kept_view c.table_with.new.kept)
    (ap (λ (k : KeptD). k.values) c.nothing_kept-kept.ensures) c.in_ok-table_with.ensures.told
