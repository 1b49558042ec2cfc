-- The tables by which the program asks.
use Rattle.conversion_table.specs.Conversions.{conversions_view}
use Rattle.value_models.specs.ContainersView.{containers_in}
use Rattle.value_taking.specs.declared.setting.Setting.{Setting}
use Rattle.value_taking.specs.At.{Tables}

abbrev pub tables_view : Setting → Tables
tables_view s = record { models = containers_in s.containers.now; conversions = conversions_view s.conversions.now }
