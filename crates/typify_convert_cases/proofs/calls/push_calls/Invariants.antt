use Rattle.std.proofs.Common.{◌≡◌, true}
use Rattle.schema_tree.specs.Document.{view as document_seen}
use Rattle.typify_convert.specs.Space.{document_in, is_begun}
use Rattle.typify_convert_cases.proofs.calls.push_calls.Given as goal

abbrev pub invariant-loop-call : goal.invariant-loop-call
invariant-loop-call l = record {
  begun : is_begun l.space ≡ true;
  document : document_in l.space ≡ document_seen l.document;
}
