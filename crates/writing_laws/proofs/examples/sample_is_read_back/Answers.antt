use Rattle.std.proofs.Common.{refl}
use Rattle.writing_laws.proofs.examples.sample_is_read_back.Goals as goal

pub returns : goal.returns
returns c = record { fit = refl; names = refl; kinds = refl; rules = refl; numbers = refl; ordered = tt }
