use Rattle.std.proofs.Common.{option_map}
use Rattle.json_value.specs.View.{kept_view}
use Rattle.syntax_trees.specs.View.{ty}
use Rattle.type_spellings.specs.Types.{type_of}
use Rattle.derive_model.specs.ModuleView.{conversions_in, models_in}
use Rattle.example_tries.proofs.Exampled.{by_this}
use Rattle.example_tries.proofs.asking.example_by.Goals as goal

pub returns-in-Ok-clause-example : goal.returns-in-Ok-clause-example
returns-in-Ok-clause-example g c =
    by_this (models_in c.args.models.now) (conversions_in c.args.models.now) (g.T.Texts.relations c.args.texts.now) (type_of (ty c.args.ty.now)) (option_map kept_view c.in-Ok.made)
    (c.in-Ok.ensures.example (g.T.Texts.relations c.args.texts.now))
