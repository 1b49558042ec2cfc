-- Conversion where rows may merge, naming, emission and reading back, one after another.
use Rattle.std.proofs.Common.{sym}
use Rattle.entry_defs.specs.Table.{root_of}
use Rattle.emit_defs.proofs.Found.{of_table}
use Rattle.emit_defs.proofs.Meaning.{keeps_meaning}
use Rattle.emit_texts.proofs.Functions.{functions_are_read}
use Rattle.emit_texts.proofs.Types.{types_are_read_again}
use Rattle.emit_laws.proofs.Assembled.{items_mean_entries, trees_are_roots}
use Rattle.convert_defs.proofs.Keeps.{keep-to}
use Rattle.merged_documents.specs.Laws.{plan_of, DocumentsMeanModels, DocumentsMeanItems}
use Rattle.merged_documents.proofs.Documents.{read_documents_are_planned, read_plans_agree}
use Rattle.merged_documents.proofs.Shaped.{read_plans_are_emittable}

pub documents_mean_models : DocumentsMeanModels
documents_mean_models way r lawful d most n w c v s =
    let t = plan_of r d most n in
    let sound = (read_documents_are_planned r d most n w).sound in
    keep-to way _ _ _ (read_plans_agree way r lawful d most n w c v s) (sym (keeps_meaning t r sound (root_of t) (of_table t sound).trees.0 v))

pub documents_mean_items : DocumentsMeanItems
documents_mean_items variant_name field_name private derive way r lawful d most n w c v s =
    let t = plan_of r d most n in
    let e = read_plans_are_emittable r d most n w in
    keep-to way _ _ _ (read_plans_agree way r lawful d most n w c v s)
    (sym (items_mean_entries functions_are_read types_are_read_again variant_name field_name private derive t e r (root_of t) (trees_are_roots t e).0 v))
