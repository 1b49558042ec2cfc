use Rattle.std.proofs.Common.{[], refl, ap}
use Rattle.schema_defs.specs.Location.{Location}
use Rattle.convert_defs.specs.Row.{places}
use Rattle.schema_tree.specs.Fault.{places as places_at}
use Rattle.convert_trees.specs.Told as told
use Rattle.convert_trees.proofs.own.many_places.Goals as goal

pub returns-in-Ok : goal.returns-in-Ok
returns-in-Ok c = λ r old new. told.by_cause places [] refl (ap (λ (l : Location). places_at l c.args.finding.now.places) c.in-Ok.ensures)
