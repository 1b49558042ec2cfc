use Rattle.std.proofs.Common.{Some, ap, ◌∙◌}
use Rattle.reading_defs.specs.Reading.{absent_within}
use Rattle.value_models.specs.ContainersView.{containers_in}
use Rattle.value_models.specs.TypeView.{type_view}
use Rattle.value_parts.proofs.AbsentValues.{by_option, by_item}
use Rattle.value_parts.proofs.TypedViews.{none_seen}
use Rattle.value_parts.proofs.missing.+absent.Goals as goal

pub absent-returns-in-Option-clause-answer : goal.absent-returns-in-Option-clause-answer
absent-returns-in-Option-clause-answer t c =
    ap Some none_seen ∙ by_option (absent_within (containers_in c.args.containers.now) c.args.left) (type_view c.args.ty.now) c.in-Option.ensures

pub absent-returns-in_ok-found-in-Item-clause-answer : goal.absent-returns-in_ok-found-in-Item-clause-answer
absent-returns-in_ok-found-in-Item-clause-answer t c =
    by_item (absent_within (containers_in c.args.containers.now) c.args.left) (type_view c.args.ty.now) _ _ c.in-Item.ensures c.in_ok-found-in-Item.ensures.answer
