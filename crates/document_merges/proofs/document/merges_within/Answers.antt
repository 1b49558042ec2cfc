use Rattle.std.proofs.Common.{List, ◌++◌, ap, ◌∙◌}
use Rattle.schema_types.specs.View.{schema_view}
use Rattle.schema_tree.specs.Document.{view as document_seen}
use Rattle.convert_walks.specs.Tree.{tree_at}
use Rattle.merged_rows.specs.Starts.{spot_of}
use Rattle.row_findings.specs.declared.part.Steps.{Steps}
use Rattle.document_merges.specs.Merges.{merges_in, merges_view}
use Rattle.document_merges.proofs.Ends.{then_ok}
use Rattle.document_merges.proofs.document.merges_within.Goals as goal

pub returns-clause-found : goal.returns-clause-found
returns-clause-found c =
    then_ok c.gather.result _ _ (λ k r h.
    k r h
    ∙ ap (λ (ks : List Steps). merges_view c.args.merges.now.items ++ merges_in (tree_at r (document_seen c.args.document.now) c.args.depth c.args.levels (spot_of c.args.start.now ks h) (schema_view c.args.schema.now))) c.new-trail.ensures.items) c.gather.ensures.found
