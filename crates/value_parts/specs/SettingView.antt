-- What a setting of the program stands for, where texts are judged as these relations say.
use Rattle.schema_defs.specs.Texts.{Relations}
use Rattle.conversion_table.specs.Conversions.{conversions_view}
use Rattle.value_models.specs.ContainersView.{containers_in}
use Rattle.value_parts.specs.declared.setting.Setting as setting'
use Rattle.value_parts.specs.At.{Setting}

abbrev pub setting_view : setting'.Setting → Relations → Setting
setting_view s r = record { models = containers_in s.containers.now; conversions = conversions_view s.conversions.now; relations = r; more = s.more; entered = s.entered.now }
