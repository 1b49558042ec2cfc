use Rattle.std.proofs.Common.{ap, ◌∙◌, ◌++◌}
use Rattle.std.specs.Prelude.{Some}
use Rattle.schema_types.specs.View.{schema_view}
use Rattle.schema_defs.specs.Schema.{Schema}
use Rattle.schema_tree.specs.Document.{view as document_seen}
use Rattle.convert_walks.specs.Tree.{tree_at}
use Rattle.document_merges.specs.Definitions.{named_spot}
use Rattle.document_merges.specs.Merges.{merges_in, merges_view}
use Rattle.document_merges.proofs.Documents.{body_is}
use Rattle.document_merges.proofs.Ends.{then_ok}
use Rattle.document_merges.proofs.document.of_definition.Goals as goal

pub returns-in_ok-start-in-Some-clause-found : goal.returns-in_ok-start-in-Some-clause-found
returns-in_ok-start-in-Some-clause-found c =
    let d = document_seen c.args.document.now in
    let n = c.args.name.now in
    then_ok c.merges_within.result _ _ (λ k r s e.
    k r (Some n)
    ∙ (λ i. merges_view c.args.merges.now.items ++ merges_in (tree_at r d c.args.depth c.args.levels (c.in_ok-start-in-Some.ensures (Some n) i) (schema_view c.in-Some.schema.now)))
    ∙ ap (λ (s : Schema). merges_view c.args.merges.now.items ++ merges_in (tree_at r d c.args.depth c.args.levels (named_spot d n) s)) (body_is n d.definitions s (schema_view c.in-Some.schema.now) c.in-Some.ensures e)) c.merges_within.ensures.found
