use Rattle.std.proofs.Common.{◌≡◌, ap, subst, sym, ◌∙◌}
use Rattle.std.specs.Prelude.{None, option_map}
use Rattle.schema_tree.specs.Document.{view as document_seen}
use Rattle.tree_types.specs.View.{table_view}
use Rattle.schema_defs.specs.Texts.{Relations}
use Rattle.convert_walks.specs.Tree.{document_tree}
use Rattle.document_merges.specs.Merges.{merges_in, merges_view}
use Rattle.convert_trees.specs.Keeping.{KeptD, kept_view, unread_view}
use Rattle.convert_trees.proofs.Ends.{if_err}
use Rattle.convert_trees.proofs.Roots.{begins_all, is_faultless, all_notes, all_values, unread_whole, refuses_later}
use Rattle.convert_trees.proofs.table.table_of.Goals as goal

pub table_with-requires : goal.table_with-requires
table_with-requires g c =
    begins_all _ _ (ap (λ (k : KeptD). k.merges) c.nothing_kept-kept.ensures ∙ c.requires)

pub first_unread-requires : goal.first_unread-requires
first_unread-requires g c =
    let d = document_seen c.args.document.now in
    subst (λ (r : Relations). merges_view c.args.merges.now.items ≡ merges_in (document_tree r d c.args.depth c.args.levels)) (sym c.in_ok-table.ensures.keeps) c.requires

pub returns-clause-faultless : goal.returns-clause-faultless
returns-clause-faultless g c =
    is_faultless (g.T.Texts.relations c.args.texts.now) (document_seen c.args.document.now) c.args.depth c.args.levels _ _ c.in_ok-table.ensures.told

pub returns-clause-notes : goal.returns-clause-notes
returns-clause-notes g c =
    all_notes (g.T.Texts.relations c.args.texts.now) (document_seen c.args.document.now) c.args.depth c.args.levels _ _
    (ap (λ (k : KeptD). k.notes) c.nothing_kept-kept.ensures) c.in_ok-table.ensures.told

pub returns-clause-unread : goal.returns-clause-unread
returns-clause-unread g c =
    let r = g.T.Texts.relations c.args.texts.now in
    let d = document_seen c.args.document.now in
    let most = c.args.depth in
    unread_whole r d most c.args.levels (g.T.Texts.relations c.table_with.new.texts) (table_view c.in_ok-table.table) (option_map unread_view c.table_with.new.kept.values.unread) (option_map unread_view c.in_ok-unread.unread)
    c.in_ok-table.ensures.keeps c.in_ok-table.ensures.table c.in_ok-unread.ensures.unread
    (all_values r d most c.args.levels None _ (kept_view c.table_with.new.kept) (ap (λ (k : KeptD). k.values) c.nothing_kept-kept.ensures) c.in_ok-table.ensures.told)

pub returns-in_err-unread-clause-refused : goal.returns-in_err-unread-clause-refused
returns-in_err-unread-clause-refused g c =
    let r = g.T.Texts.relations c.args.texts.now in
    let d = document_seen c.args.document.now in
    if_err c.from_residual-in_err-unread.result c.in_err-unread.field-0.0 _ c.from_residual-in_err-unread.ensures.1
    (refuses_later r d c.args.depth c.args.levels _ (g.T.Texts.relations c.table_with.new.texts) _ _ _ c.in_ok-table.ensures.keeps c.in_ok-table.ensures.counts c.in_err-unread.ensures.refused)
