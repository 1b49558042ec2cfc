use Rattle.stopping_laws.proofs.Values.{reading_stops}
use Rattle.stopping_laws.proofs.laws.reading_stops.Goals as goal

pub returns : goal.returns
returns c = reading_stops
