use Rattle.std.proofs.Common.{◌≡◌, length}
use Rattle.std.specs.List.{list_all}
use Rattle.schema_types.specs.DocumentView.{document_view}
use Rattle.schema_types.specs.View.{schema_view, schemas_view}
use Rattle.enum_defs.specs.Exclusive.{are_apart}
use Rattle.enum_kinds.proofs.apart.is_apart_from_all.Given as goal

abbrev pub invariant-loop-other : goal.invariant-loop-other
invariant-loop-other l = record {
  same :
      list_all (are_apart (document_view l.document) (schema_view l.schema)) (schemas_view l.others)
      ≡ list_all (are_apart (document_view l.document) (schema_view l.schema)) (schemas_view l.left);
  asked : l.asked.document.now ≡ l.document;
}

abbrev pub decreases-loop-other : goal.decreases-loop-other
decreases-loop-other l = length l.left
