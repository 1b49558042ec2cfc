use Rattle.std.proofs.Common.{◌≡◌, drop}
use Rattle.std.specs.List.{list_all}
use Rattle.value_models.specs.ContainerView.{containers_view}
use Rattle.value_models.specs.ContainersView.{containers_in}
use Rattle.writing_laws.specs.Kinds.{body_is_apart}
use Rattle.apart_kinds.proofs.untagged.bodies_are_apart.Given as goal

abbrev pub invariant-loop-container : goal.invariant-loop-container
invariant-loop-container l =
    let apart = list_all (λ m. body_is_apart (containers_in l.table.containers) m.closed m.body) in
    apart (containers_view (drop l.container-index l.containers)) ≡ apart (containers_view l.containers)
