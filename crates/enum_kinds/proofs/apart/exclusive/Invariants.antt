use Rattle.std.proofs.Common.{◌≡◌, length}
use Rattle.schema_types.specs.DocumentView.{document_view}
use Rattle.schema_types.specs.View.{schemas_view}
use Rattle.enum_defs.specs.Exclusive.{exclusive}
use Rattle.enum_kinds.proofs.apart.exclusive.Given as goal

abbrev pub invariant-loop-schema : goal.invariant-loop-schema
invariant-loop-schema l = record {
  same : exclusive (document_view l.document) (schemas_view l.schemas) ≡ exclusive (document_view l.document) (schemas_view l.left);
  asked : l.asked.document.now ≡ l.document;
}

abbrev pub decreases-loop-schema : goal.decreases-loop-schema
decreases-loop-schema l = length l.left
