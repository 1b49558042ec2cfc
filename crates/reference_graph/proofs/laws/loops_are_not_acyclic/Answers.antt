use Rattle.reference_graph.proofs.Routes as routes
use Rattle.reference_graph.proofs.laws.loops_are_not_acyclic.Goals as goal

pub returns : goal.returns
returns c = routes.loops_are_not_acyclic
