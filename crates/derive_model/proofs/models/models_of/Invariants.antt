use Rattle.std.proofs.Common.{◌≡◌, ◌++◌, map, drop}
use Rattle.container_defs.specs.Reader.{reader_model}
use Rattle.derive_ast.specs.Views.{container_view}
use Rattle.value_models.specs.ContainerView.{containers_view}
use Rattle.derive_model.proofs.models.models_of.Given as goal

abbrev pub invariant-loop-container : goal.invariant-loop-container
invariant-loop-container l =
    containers_view l.models.items ++ map reader_model (map container_view (drop l.container-index l.read)) ≡ map reader_model (map container_view l.read)
