use Rattle.evolve_ways.proofs.Reaching.{led_reached}
use Rattle.evolve_ways.proofs.laws.what_is_led_to_is_reached.Goals as goal

pub returns : goal.returns
returns c = led_reached
