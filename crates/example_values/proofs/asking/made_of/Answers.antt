use Rattle.json_value.specs.View.{kept_view}
use Rattle.conversion_table.specs.Conversions.{conversions_view}
use Rattle.example_parts.specs.SettingView.{conversions_of, models_of}
use Rattle.value_models.specs.ContainersView.{containers_in}
use Rattle.value_models.specs.TypeView.{type_view}
use Rattle.example_values.proofs.Answered.{one_made}
use Rattle.example_values.proofs.asking.made_of.Goals as goal

pub returns-in-Some : goal.returns-in-Some
returns-in-Some c =
    let s = c.in_ok-counted.counted in
    one_made (containers_in s.places.containers.now) (models_of c.args.setting) (conversions_view s.conversions.now) (conversions_of c.args.setting) c.in_ok-counted.ensures.models c.in_ok-counted.ensures.conversions
    (type_view c.args.ty.now) c.in_ok-rounds.rounds c.in-Some.field-0 (kept_view c.in_ok-value-in-Some.value) c.in_ok-rounds.ensures c.in-Some.is c.in_ok-value-in-Some.ensures
