use Rattle.std.proofs.Common.{◌&&◌, not, ◌∙◌}
use Rattle.schema_admission.proofs.list.is_passed_over.Goals as goal

pub returns : goal.returns
returns c = c.both.ensures ∙ (λ i. c.counts_as_absent-absent.ensures i && not (c.is_required-listed.ensures i))
