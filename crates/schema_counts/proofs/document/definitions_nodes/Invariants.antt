use Rattle.std.proofs.Common.{length, map}
use Rattle.schema_defs.specs.Laws.{NamesRise}
use Rattle.schema_types.specs.DocumentView.{document_view}
use Rattle.schema_counts.proofs.Defined.{Left}
use Rattle.schema_counts.proofs.document.definitions_nodes.Given as goal

abbrev pub invariant-loop-name : goal.invariant-loop-name
invariant-loop-name l = record {
  left : Left (document_view l.document).definitions l.names l.count;
  rise : NamesRise (map (λ e. e.name) (document_view l.document).definitions);
}

abbrev pub decreases-loop-name : goal.decreases-loop-name
decreases-loop-name l = length l.names
