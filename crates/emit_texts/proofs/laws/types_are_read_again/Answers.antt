use Rattle.emit_texts.proofs.Types.{types_are_read_again}
use Rattle.emit_texts.proofs.laws.types_are_read_again.Goals as goal

pub returns : goal.returns
returns c = types_are_read_again
