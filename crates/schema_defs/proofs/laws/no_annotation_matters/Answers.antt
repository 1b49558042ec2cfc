use Rattle.schema_defs.proofs.Mapped.{no_annotation_matters}
use Rattle.schema_defs.proofs.laws.no_annotation_matters.Goals as goal

pub returns : goal.returns
returns c = no_annotation_matters
