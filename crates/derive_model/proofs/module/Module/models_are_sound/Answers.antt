use Rattle.std.proofs.Common.{◌∙◌, ap}
use Rattle.std.specs.List.{list_all}
use Rattle.derive_model.specs.ModuleView.{conversions_in, models_in}
use Rattle.derive_model.proofs.SoundParts.{container_sound}
use Rattle.derive_model.proofs.module.Module.models_are_sound.Goals as goal

pub returns-clause-answer : goal.returns-clause-answer
returns-clause-answer g c =
    let m = c.args.self.now in
    c.in_ok-sound.ensures.answer ∙ ap (list_all (container_sound (models_in m) (conversions_in m) (g.T.Texts.relations c.args.texts.now))) c.containers.ensures
