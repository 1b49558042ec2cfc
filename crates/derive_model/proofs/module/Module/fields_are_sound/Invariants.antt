use Rattle.std.proofs.Common.{◌≡◌, ◌≤◌, drop}
use Rattle.reading_defs.specs.Laws.{fields_are_sound}
use Rattle.value_models.specs.FieldView.{fields_view}
use Rattle.derive_model.specs.ModuleView.{conversions_in, models_in}
use Rattle.derive_model.proofs.module.Module.fields_are_sound.Given as goal

abbrev pub invariant-loop-field : goal.invariant-loop-field
invariant-loop-field g l =
    let sound = fields_are_sound (models_in l.self) (conversions_in l.self) (g.T.Texts.relations l.initial.texts) in
    record {
      left : sound (fields_view (drop l.field-index l.fields)) ≡ sound (fields_view l.fields);
      keeps : g.T.Texts.relations l.texts ≡ g.T.Texts.relations l.initial.texts;
      counts : g.T.Texts.faults l.initial.texts ≤ g.T.Texts.faults l.texts;
    }
