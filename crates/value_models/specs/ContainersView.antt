-- The models that a table of containers holds.
use Rattle.std.specs.Prelude.{List}
use Rattle.model_defs.specs.Model.{ContainerModel}
use Rattle.value_models.specs.declared.containers.Containers.{Containers}
use Rattle.value_models.specs.ContainerView.{containers_view}

abbrev pub containers_in : Containers → List ContainerModel
containers_in m = containers_view m.containers.items
