use Rattle.std.proofs.Common.{List, ◌++◌, string_bytes, ap, ◌∙◌}
use Rattle.serde_json.specs.View.{view}
use Rattle.json_value.specs.View.{value_of}
use Rattle.schema_faults.specs.Schemas.{schemas_of}
use Rattle.passed_keywords.specs.Lines.{lines_of}
use Rattle.passed_keywords.proofs.Behind.{document_lines}
use Rattle.passed_keywords.proofs.lines.passed_text.Goals as goal

pub returns : goal.returns
returns c =
    let v = value_of (view c.args.document.now) in
    c.in_ok-in_schema.ensures ∙ ap (λ o. o ++ lines_of c.root-root.result (schemas_of v)) c.new-text.ensures.bytes ∙ ap (λ l. lines_of l (schemas_of v)) c.root-root.ensures ∙ document_lines v
