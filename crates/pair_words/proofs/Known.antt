-- The root's type of a report names items and built-in types alone, by the laws of emission.
use Rattle.std.proofs.Common.{◌≡◌, true, ap, ◌∙◌}
use Rattle.json_value.specs.Value.{Value}
use Rattle.type_spellings.specs.Types.{type_of}
use Rattle.container_defs.specs.Forms.{is_known, names_of}
use Rattle.entry_defs.specs.Table as entries
use Rattle.emit_defs.specs.Emission.{Emission}
use Rattle.emit_defs.specs.Formed.{IsEmittable}
use Rattle.emit_texts.proofs.Functions.{functions_are_read}
use Rattle.emit_texts.proofs.Types.{types_are_read_again}
use Rattle.emit_laws.proofs.Assembled.{roots_are_read, trees_are_roots}
use Rattle.distinct_names.specs.Names.{NamesDiffer}
use Rattle.document_laws.specs.Laws.{WasRead}
use Rattle.merged_documents.specs.Laws.{plan_of}
use Rattle.merged_documents.proofs.Shaped.{read_plans_are_emittable}
use Rattle.convert_document.specs.Levels.{most_levels}
use Rattle.typify_run.specs.Headline.{items_of, root_of}
use Rattle.typify_run.specs.declared.report.Report.{Report}
use Rattle.schema_words.specs.Words.{Asking}
use Rattle.schema_words.specs.Outcome.{IsReportOn}

pub root_is_known : (c : Asking) (schema : Value) (r : Report) → NamesDiffer schema → IsReportOn c schema r → is_known (names_of (items_of r)) (root_of r) ≡ true
root_is_known c schema r differ on =
    let d = on.emission.document in
    let read : WasRead d = record { setting = c.setting; value = schema; read = on.emission.is_read; differ = differ } in
    let plan = plan_of c.texts d c.depth most_levels in
    let emittable : IsEmittable plan = read_plans_are_emittable c.texts d c.depth most_levels read in
    ap (λ (k : Emission). is_known (names_of k.items) (type_of k.root)) on.emission.emission
    ∙ (roots_are_read functions_are_read types_are_read_again plan emittable (entries.root_of plan) (trees_are_roots plan emittable).0).0
