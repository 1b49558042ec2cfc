use Rattle.std.proofs.Common.{length, map}
use Rattle.schema_defs.specs.Laws.{NamesRise}
use Rattle.schema_tree.specs.Document.{view as document_seen}
use Rattle.document_merges.specs.Merges.{merges_view}
use Rattle.document_merges.proofs.Documents.{Left}
use Rattle.document_merges.proofs.document.of_definitions.Given as goal

abbrev pub invariant-loop-name : goal.invariant-loop-name
invariant-loop-name l = record {
  left : Left (document_seen l.document) l.depth l.levels l.names (merges_view l.initial.merges.items) (merges_view l.merges.items);
  rise : NamesRise (map (λ e. e.name) (document_seen l.document).definitions);
}

abbrev pub decreases-loop-name : goal.decreases-loop-name
decreases-loop-name l = length l.names
