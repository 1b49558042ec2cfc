use Rattle.plain_reading.proofs.Differ.{text_names_differ}
use Rattle.plain_reading.proofs.laws.text_names_differ.Goals as goal

pub returns : goal.returns
returns c = text_names_differ
