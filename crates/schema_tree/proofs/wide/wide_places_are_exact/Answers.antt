use Rattle.schema_tree.proofs.WidePlaces.{wide_exact}
use Rattle.schema_tree.proofs.wide.wide_places_are_exact.Goals as goal

pub returns : goal.returns
returns c = wide_exact
