use Rattle.typed_laws.proofs.Values.{what_is_read_is_typed}
use Rattle.typed_laws.proofs.laws.what_is_read_is_typed.Goals as goal

pub returns : goal.returns
returns c = what_is_read_is_typed
