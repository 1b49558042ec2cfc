use Rattle.std.proofs.Common.{ap, ◌∙◌, arith}
use Rattle.value_models.specs.FieldView.{field_view}
use Rattle.derive_model.specs.ModuleView.{conversions_in, models_in}
use Rattle.derive_model.proofs.SoundParts.{field_sound, one_passes, one_fails, all_pass}
use Rattle.derive_model.proofs.module.Module.fields_are_sound.Goals as goal

pub loop-field-preserved : goal.loop-field-preserved
loop-field-preserved g c =
    let l = c.loop-field in
    let m = c.args.self.now in
    let x = c.field-item.result in
    let said = c.in_ok-field_is_sound.ensures.answer ∙ ap (λ q. field_sound (models_in m) (conversions_in m) q (field_view x)) l.invariant.keeps in
    record {
      left = one_passes field_view (field_sound (models_in m) (conversions_in m) (g.T.Texts.relations c.args.texts.now)) c.args.fields.now l.field-index x c.loop-field-test.true c.field-item.is _ said _ c.if-not-branch.false l.invariant.left;
      keeps = c.in_ok-field_is_sound.ensures.keeps ∙ l.invariant.keeps;
      counts = omega (arith, l.invariant.counts, c.in_ok-field_is_sound.ensures.counts);
    }

pub returns-then-not-branch-clause-answer : goal.returns-then-not-branch-clause-answer
returns-then-not-branch-clause-answer g c =
    let l = c.loop-field in
    let m = c.args.self.now in
    let x = c.field-item.result in
    let said = c.in_ok-field_is_sound.ensures.answer ∙ ap (λ q. field_sound (models_in m) (conversions_in m) q (field_view x)) l.invariant.keeps in
    one_fails field_view (field_sound (models_in m) (conversions_in m) (g.T.Texts.relations c.args.texts.now)) c.args.fields.now l.field-index x c.loop-field-test.true c.field-item.is _ said _ c.if-not-branch.true l.invariant.left

pub returns-clause-answer : goal.returns-clause-answer
returns-clause-answer g c =
    let l = c.loop-field in
    let m = c.args.self.now in
    all_pass field_view (field_sound (models_in m) (conversions_in m) (g.T.Texts.relations c.args.texts.now)) c.args.fields.now l.field-index _ c.loop-field-test.false l.invariant.left
