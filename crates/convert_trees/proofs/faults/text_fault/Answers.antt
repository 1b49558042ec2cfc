use Rattle.std.proofs.Common.{[], refl}
use Rattle.convert_trees.specs.Told as told
use Rattle.convert_trees.proofs.Ends.{first_place}
use Rattle.convert_trees.proofs.faults.text_fault.Goals as goal

pub returns-in-Ok : goal.returns-in-Ok
returns-in-Ok c = λ old new h. told.failed c.in-Ok.path (first_place _ _ [] c.in-Ok.ensures) refl (h c.in-Failed.is)
