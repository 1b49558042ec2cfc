use Rattle.std.proofs.Common.{◌∙◌}
use Rattle.conversion_table.specs.Conversions.{conversions_view}
use Rattle.json_value.specs.View.{kept_view}
use Rattle.value_models.specs.ContainersView.{containers_in}
use Rattle.value_models.specs.TypeView.{type_view}
use Rattle.value_parts.specs.Seen.{one_view}
use Rattle.value_reading.proofs.Levels.{reading_here}
use Rattle.value_reading.proofs.reading.read.Goals as goal

pub returns-clause-answer : goal.returns-clause-answer
returns-clause-answer g c =
    reading_here (containers_in c.args.containers.now) (conversions_view c.args.conversions.now) (g.T.Texts.relations c.args.texts.now) c.count_defaults.result c.deref.result.now
    (type_view c.args.ty.now) (kept_view c.args.value.now) (one_view c.in_ok-read.read)
    c.count_defaults.ensures (c.deref.ensures.value ∙ c.new-entered.ensures.items) c.in_ok-read.ensures.answer
