use Rattle.std.proofs.Common.{◌≡◌, ◌≤◌, drop}
use Rattle.std.specs.List.{list_all}
use Rattle.reading_defs.specs.Laws.{body_is_sound}
use Rattle.value_models.specs.ContainerView.{containers_view}
use Rattle.derive_model.specs.ModuleView.{conversions_in, models_in}
use Rattle.derive_model.proofs.module.Module.containers_are_sound.Given as goal

abbrev pub invariant-loop-container : goal.invariant-loop-container
invariant-loop-container g l =
    let sound = list_all (λ m. body_is_sound (models_in l.self) (conversions_in l.self) (g.T.Texts.relations l.initial.texts) m.body) in
    record {
      left : sound (containers_view (drop l.container-index l.containers)) ≡ sound (containers_view l.containers);
      keeps : g.T.Texts.relations l.texts ≡ g.T.Texts.relations l.initial.texts;
      counts : g.T.Texts.faults l.initial.texts ≤ g.T.Texts.faults l.texts;
    }
