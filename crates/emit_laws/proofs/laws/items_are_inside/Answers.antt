use Rattle.emit_texts.proofs.Functions.{functions_are_read}
use Rattle.emit_texts.proofs.Types.{types_are_read_again}
use Rattle.emit_laws.proofs.Assembled.{items_are_inside}
use Rattle.emit_laws.proofs.laws.items_are_inside.Goals as goal

pub returns : goal.returns
returns c = items_are_inside functions_are_read types_are_read_again
