use Rattle.std.proofs.Common.{List, ◌++◌, Some, ap, ◌∙◌, sym}
use Rattle.schema_tree.specs.Document.{view as document_seen}
use Rattle.convert_defs.specs.Convert.{root_name}
use Rattle.convert_walks.specs.Tree.{definition_trees, root_spot, tree_at}
use Rattle.document_merges.specs.declared.merge.Merge.{Merge}
use Rattle.document_merges.specs.Merges.{merges_in, merges_view}
use Rattle.document_merges.proofs.Found.{merges_of_both}
use Rattle.document_merges.proofs.document.merges_of.Goals as goal

pub returns-clause-found : goal.returns-clause-found
returns-clause-found c = λ r.
    let d = document_seen c.args.document.now in
    let most = c.args.depth in
    let m = c.args.levels in
    c.in_ok-merges_within.ensures.found r (Some (root_name d.root))
    ∙ (λ i. (c.in_ok-of_definitions.ensures.found r ∙ ap (λ (ms : List Merge). merges_view ms ++ merges_in (definition_trees r d most m d.definitions)) c.new-merges.ensures.items) i
    ++ merges_in (tree_at r d most m (c.in_ok-start.ensures (Some (root_name d.root)) i) (c.root.ensures i)))
    ∙ sym (merges_of_both (definition_trees r d most m d.definitions) (tree_at r d most m (root_spot r d most m) d.root))
