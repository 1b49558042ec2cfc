use Rattle.std.proofs.Common.{◌≡◌, ◌++◌, drop, map}
use Rattle.syntax_trees.specs.Item.{item_view}
use Rattle.schema_types.specs.DocumentView.{document_view}
use Rattle.module_texts.specs.Docs.{doc_view}
use Rattle.item_docs.specs.Docs.{below_definitions, names_in}
use Rattle.item_docs.proofs.docs.below_definitions.Given as goal

abbrev pub invariant-loop-doc : goal.invariant-loop-doc
invariant-loop-doc l =
    let is = map item_view l.items.items.now in
    map doc_view l.docs.items ++ below_definitions is (document_view l.document) (map doc_view (drop l.doc-index l.told)) l.names ≡ below_definitions is (document_view l.document) (map doc_view l.told) (names_in (document_view l.document))
