-- In a document that was read from a value without bad references, each reference has a target.
use Rattle.std.proofs.Common.{sym, ap, subst, ◌∙◌}
use Rattle.schema_faults.specs.Schemas.{schemas_of}
use Rattle.schema_faults.specs.Faults.{leads, bad_reference_texts}
use Rattle.schema_faults.proofs.Readings.{is_empty}
use Rattle.schema_faults.proofs.Roots.{empty-told}
use Rattle.schema_faults.proofs.Targets.{leads_to_targets}
use Rattle.schema_laws.specs.Laws.{ReferencesAreResolved}
use Rattle.schema_laws.proofs.Options.{IfThere}
use Rattle.schema_laws.proofs.Fine.{FineDocument, each_passes}
use Rattle.schema_laws.proofs.Passing.{document_fine}

pub references_are_resolved : ReferencesAreResolved
references_are_resolved setting v d e b l s q f g =
    let fine : FineDocument (leads v) d = subst (IfThere (FineDocument (leads v))) e (document_fine (leads v) setting v (sym (empty-told (bad_reference_texts v) (schemas_of v)) ∙ ap is_empty b)) in
    sym (leads_to_targets setting v d e q) ∙ each_passes (leads v) d fine l s q f g
