use Rattle.convert_trees.proofs.Causes.{places_refused}
use Rattle.convert_trees.proofs.own.check_places.Goals as goal

pub returns-clause-refused : goal.returns-clause-refused
returns-clause-refused c = λ r old new. places_refused _ _ _ _ _ _ _ _ c.if-finding-scope.false (c.many_places.ensures r old new)
