use Rattle.emit_texts.proofs.Functions.{functions_are_read}
use Rattle.emit_texts.proofs.laws.functions_are_read.Goals as goal

pub returns : goal.returns
returns c = functions_are_read
