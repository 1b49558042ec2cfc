use Rattle.reference_graph.proofs.Routes as routes
use Rattle.reference_graph.proofs.laws.ways_join.Goals as goal

pub returns : goal.returns
returns c = routes.ways_join
