use Rattle.std.proofs.Common.{◌∙◌}
use Rattle.conversion_table.specs.Conversions.{conversions_view}
use Rattle.value_models.specs.ContainersView.{containers_in}
use Rattle.value_models.specs.TypeView.{type_view}
use Rattle.value_parts.specs.Seen.{one_view}
use Rattle.value_reading.proofs.Defaults.{default_here}
use Rattle.value_reading.proofs.stated.reads_default.Goals as goal

pub returns-clause-answer : goal.returns-clause-answer
returns-clause-answer g c =
    default_here (containers_in c.args.containers.now) (conversions_view c.args.conversions.now) (g.T.Texts.relations c.args.texts.now) c.count_defaults.result c.deref.result.now
    c.args.place (type_view c.args.ty.now) (one_view c.in_ok-read.read) c.is_taken.result
    c.count_defaults.ensures (c.deref.ensures.value ∙ c.new-entered.ensures.items) c.in_ok-read.ensures.answer c.is_taken.ensures
