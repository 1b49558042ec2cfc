use Rattle.std.proofs.Common.{◌≡◌, ◌+◌, length, vec_len}
use Rattle.schema_types.specs.DocumentView.{document_view}
use Rattle.schema_admission.proofs.reference.allowed.Given as goal

abbrev pub invariant-loop-name : goal.invariant-loop-name
invariant-loop-name l = vec_len l.held + length l.names ≡ length (document_view l.document).definitions

abbrev pub decreases-loop-name : goal.decreases-loop-name
decreases-loop-name l = length l.names
