use Rattle.evolve_ways.proofs.Level.{reached_led}
use Rattle.evolve_ways.proofs.laws.what_is_reached_is_led_to.Goals as goal

pub returns : goal.returns
returns c = reached_led
