use Rattle.std.proofs.Common.{◌∙◌}
use Rattle.schema_texts.proofs.Identifiers.{identified}
use Rattle.schema_texts.proofs.format.is_identifier.Goals as goal

pub returns : goal.returns
returns c = c.is_ok.ensures.value ∙ identified _ _ c.parse_str.ensures.ok
