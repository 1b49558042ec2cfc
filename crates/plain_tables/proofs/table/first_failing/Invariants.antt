use Rattle.std.proofs.Common.{drop}
use Rattle.conversion_table.specs.Conversions.{conversions_view}
use Rattle.value_models.specs.ContainerView.{containers_view}
use Rattle.value_models.specs.ContainersView.{containers_in}
use Rattle.plain_tables.proofs.Failing.{IsLeft}
use Rattle.plain_tables.proofs.table.first_failing.Given as goal

abbrev pub invariant-loop-place : goal.invariant-loop-place
invariant-loop-place l = IsLeft (containers_in l.table.containers) (conversions_view l.conversions) l.first l.place (containers_view (drop l.place l.containers))
