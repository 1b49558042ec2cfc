use Rattle.std.proofs.Common.{drop}
use Rattle.value_models.specs.ContainerView.{containers_view}
use Rattle.plain_tables.specs.Twice.{AreCounted}
use Rattle.plain_tables.proofs.table.names_again.Given as goal

abbrev pub invariant-loop-container : goal.invariant-loop-container
invariant-loop-container l = AreCounted (containers_view l.containers) l.seen l.again (containers_view (drop l.container-index l.containers))
