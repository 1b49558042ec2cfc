use Rattle.std.proofs.Common.{refl}
use Rattle.stopping_laws.proofs.examples.items_that_reach_themselves.Goals as goal

pub returns : goal.returns
returns c = record { within = record { fit = refl; shapes = refl; rules = refl; sound = refl }; read = refl; taken_once = refl; written_once = refl; settled_once = refl; refused = refl; refused_itself = refl; stopped_itself = refl }
