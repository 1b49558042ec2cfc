use Rattle.std.proofs.Common.{map, option_map, ap, ◌∙◌}
use Rattle.json_value.specs.View.{kept_view}
use Rattle.syntax_trees.specs.Item.{item_view}
use Rattle.derive_model.specs.ModuleView.{conversions_in, models_in}
use Rattle.typify_run.specs.Headline.{read_of}
use Rattle.typify_run.specs.Examine.{as_it_stands}
use Rattle.example_run.proofs.Answered.{answered, refused}
use Rattle.example_run.proofs.exemplifying.exemplified.Goals as goal

pub returns-in-Ok-example-clause-answered : goal.returns-in-Ok-example-clause-answered
returns-in-Ok-example-clause-answered c =
    answered c.args.report.now (models_in c.in-Ok.module) (conversions_in c.in-Ok.module)
    (c.in-Ok.ensures.models ∙ ap (λ is. read_of as_it_stands (map item_view is)) c.deref.ensures.value) c.in-Ok.ensures.conversions
    (option_map kept_view c.in-Ok-example.made) c.in-Ok-example.ensures.example c.in-Ok-example.ensures.made

pub returns-in-Ok-clause-refused : goal.returns-in-Ok-clause-refused
returns-in-Ok-clause-refused c =
    refused c.args.report.now (models_in c.in-Ok.module) (conversions_in c.in-Ok.module)
    (c.in-Ok.ensures.models ∙ ap (λ is. read_of as_it_stands (map item_view is)) c.deref.ensures.value) c.in-Ok.ensures.conversions
    c.in-Err-example.refused c.in-Err-example.ensures.outside
