use Rattle.std.proofs.Common.{◌≡◌, ℕ, List, [], Some, refl, ap, sym, subst, ◌∙◌}
use Rattle.schema_tree.specs.Fault.{fault_view}
use Rattle.convert_defs.specs.Row.{Row}
use Rattle.convert_defs.specs.Faults.{row_faults}
use Rattle.convert_defs.specs.Table.{reference_row}
use Rattle.row_findings.specs.Given.{source_view}
use Rattle.row_findings.specs.View.{row_view}
use Rattle.merged_rows.specs.Starts.{path_by}
use Rattle.convert_trees.specs.Told.{RowRefuses, without_memory}
use Rattle.convert_trees.proofs.Causes.{row_refused}
use Rattle.convert_trees.proofs.Ends.{if_err}
use Rattle.convert_trees.proofs.own.check_row.Goals as goal

pub returns-in_err-check_reference-in-Reference-clause-refused : goal.returns-in_err-check_reference-in-Reference-clause-refused
returns-in_err-check_reference-in-Reference-clause-refused c =
    let l = path_by c.args.scope.now.start.now c.args.trail.now.items in
    let s = source_view c.args.source.now in
    let f = c.in_err-check_reference-in-Reference.field-0.0 in
    if_err c.from_residual.result f _ c.from_residual.ensures.1
    (λ r. subst (λ (w : Row). RowRefuses l s w (fault_view f)) (ap (λ (q : List ℕ). reference_row (Some q)) c.as_str.ensures.value ∙ ap (row_view r) (sym c.in-Reference.is)) c.in_err-check_reference-in-Reference.ensures.refused)

pub returns-in-Refused-clause-refused : goal.returns-in-Refused-clause-refused
returns-in-Refused-clause-refused c = λ r. row_refused _ _ _ _ _ (ap (row_view r) c.in-Refused.is) c.refused.ensures

pub returns-in-Merged-clause-refused : goal.returns-in-Merged-clause-refused
returns-in-Merged-clause-refused c = λ r. without_memory refl

pub returns-in_ok-check_reference-in-Reference-clause-fine : goal.returns-in_ok-check_reference-in-Reference-clause-fine
returns-in_ok-check_reference-in-Reference-clause-fine c =
    λ r d n. subst (λ (w : Row). row_faults r d n w ≡ []) (ap (λ (q : List ℕ). reference_row (Some q)) c.as_str.ensures.value ∙ ap (row_view r) (sym c.in-Reference.is)) (c.in_ok-check_reference-in-Reference.ensures.fine r d n)
