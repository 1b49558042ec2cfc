use Rattle.emit_laws.proofs.Assembled.{trees_are_roots}
use Rattle.emit_laws.proofs.laws.trees_are_roots.Goals as goal

pub returns : goal.returns
returns c = trees_are_roots
