use Rattle.std.proofs.Common.{length, map}
use Rattle.schema_types.specs.DocumentView.{document_view}
use Rattle.module_texts.specs.Docs.{doc_view}
use Rattle.item_docs.specs.Docs.{names_in}
use Rattle.item_docs.proofs.Naming.{Gives}
use Rattle.item_docs.proofs.docs.definition_docs.Given as goal

abbrev pub invariant-loop-name : goal.invariant-loop-name
invariant-loop-name l = Gives (document_view l.document) l.fn.given l.given (map doc_view l.docs.items) l.names (names_in (document_view l.document))

abbrev pub decreases-loop-name : goal.decreases-loop-name
decreases-loop-name l = length l.names
