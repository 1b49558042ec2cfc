use Rattle.std.proofs.Common.{◌≡◌, ◌≤◌, drop}
use Rattle.std.specs.List.{list_all}
use Rattle.reading_defs.specs.Laws.{fields_are_sound}
use Rattle.value_models.specs.VariantView.{variants_view}
use Rattle.derive_model.specs.ModuleView.{conversions_in, models_in}
use Rattle.derive_model.proofs.module.Module.variants_are_sound.Given as goal

abbrev pub invariant-loop-variant : goal.invariant-loop-variant
invariant-loop-variant g l =
    let sound = list_all (λ w. fields_are_sound (models_in l.self) (conversions_in l.self) (g.T.Texts.relations l.initial.texts) w.fields) in
    record {
      left : sound (variants_view (drop l.variant-index l.variants)) ≡ sound (variants_view l.variants);
      keeps : g.T.Texts.relations l.texts ≡ g.T.Texts.relations l.initial.texts;
      counts : g.T.Texts.faults l.initial.texts ≤ g.T.Texts.faults l.texts;
    }
