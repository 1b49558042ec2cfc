use Rattle.std.proofs.Common.{length}
use Rattle.schema_types.specs.DocumentView.{document_view}
use Rattle.item_docs.specs.Docs.{names_in}
use Rattle.item_docs.proofs.Naming.{Wants}
use Rattle.item_docs.proofs.docs.wanted_names.Given as goal

abbrev pub invariant-loop-name : goal.invariant-loop-name
invariant-loop-name l = Wants l.given l.names (names_in (document_view l.document))

abbrev pub decreases-loop-name : goal.decreases-loop-name
decreases-loop-name l = length l.names
