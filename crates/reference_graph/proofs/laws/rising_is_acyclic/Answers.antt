use Rattle.reference_graph.proofs.Routes as routes
use Rattle.reference_graph.proofs.laws.rising_is_acyclic.Goals as goal

pub returns : goal.returns
returns c = routes.rising_is_acyclic
