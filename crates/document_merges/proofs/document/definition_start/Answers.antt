use Rattle.std.proofs.Common.{ap, ◌∙◌}
use Rattle.schema_defs.specs.Location.{Location}
use Rattle.document_merges.specs.Definitions.{begun_at}
use Rattle.document_merges.proofs.document.definition_start.Goals as goal

pub returns : goal.returns
returns c = λ h. c.in_ok-start.ensures h ∙ ap (λ (l : Location). begun_at l h) c.in_ok-place.ensures
