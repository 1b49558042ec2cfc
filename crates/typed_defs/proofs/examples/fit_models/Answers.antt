use Rattle.std.proofs.Common.{refl}
use Rattle.typed_defs.proofs.examples.fit_models.Goals as goal

pub returns : goal.returns
returns c = record { plain = refl; both = refl; condition_alone = refl; default_alone = refl; never_empty = refl }
