use Rattle.std.proofs.Common.{refl}
use Rattle.evolve_ways.proofs.examples.texts.Goals as goal

pub returns : goal.returns
returns c = record { no_way = refl; a_way = refl; a_variant = refl; a_map = refl; strange_names = refl }
