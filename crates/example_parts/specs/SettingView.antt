-- The tables by which examples are made.
use Rattle.std.specs.Prelude.{List}
use Rattle.model_defs.specs.Model.{ContainerModel, ConversionsD}
use Rattle.conversion_table.specs.Conversions.{conversions_view}
use Rattle.value_models.specs.ContainersView.{containers_in}
use Rattle.example_parts.specs.declared.setting.Setting.{Setting}

abbrev pub models_of : Setting → List ContainerModel
models_of s = containers_in s.containers.now

abbrev pub conversions_of : Setting → ConversionsD
conversions_of s = conversions_view s.conversions.now
