use Rattle.std.proofs.Common.{length}
use Rattle.document_merges.proofs.document.size_of_document.Given as goal

abbrev pub decreases-loop-name : goal.decreases-loop-name
decreases-loop-name l = length l.names
