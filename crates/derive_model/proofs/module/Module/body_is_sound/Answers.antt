use Rattle.std.proofs.Common.{sym, ap, ◌∙◌}
use Rattle.std.specs.List.{list_all}
use Rattle.reading_defs.specs.Laws.{body_is_sound, fields_are_sound}
use Rattle.value_models.specs.ContainerView.{body_view}
use Rattle.derive_model.specs.ModuleView.{conversions_in, models_in}
use Rattle.derive_model.proofs.module.Module.body_is_sound.Goals as goal

pub returns-in_ok-sound-in-Enum-clause-answer : goal.returns-in_ok-sound-in-Enum-clause-answer
returns-in_ok-sound-in-Enum-clause-answer g c =
    let ms = models_in c.args.self.now in
    let cs = conversions_in c.args.self.now in
    let r = g.T.Texts.relations c.args.texts.now in
    c.in_ok-sound-in-Enum.ensures.answer ∙ ap (list_all (λ w. fields_are_sound ms cs r w.fields)) c.variants.ensures ∙ sym (ap (λ b. body_is_sound ms cs r (body_view b)) c.in-Enum.is)
