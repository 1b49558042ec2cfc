use Rattle.plain_reading.proofs.Levels.{plain_texts_are_converted}
use Rattle.plain_reading.proofs.laws.plain_texts_are_converted.Goals as goal

pub returns : goal.returns
returns c = plain_texts_are_converted
