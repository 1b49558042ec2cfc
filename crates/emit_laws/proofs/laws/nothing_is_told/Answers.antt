use Rattle.emit_texts.proofs.Functions.{functions_are_read}
use Rattle.emit_texts.proofs.Types.{types_are_read_again}
use Rattle.emit_laws.proofs.Assembled.{nothing_is_told}
use Rattle.emit_laws.proofs.laws.nothing_is_told.Goals as goal

pub returns : goal.returns
returns c = nothing_is_told functions_are_read types_are_read_again
