use Rattle.std.proofs.Common.{◌∙◌, arith}
use Rattle.reading_defs.specs.Laws.{fields_are_sound}
use Rattle.value_models.specs.VariantView.{variant_view}
use Rattle.derive_model.specs.ModuleView.{conversions_in, models_in}
use Rattle.derive_model.proofs.SoundParts.{variant_sound, one_passes, one_fails, all_pass}
use Rattle.derive_model.proofs.module.Module.variants_are_sound.Goals as goal

pub loop-variant-preserved : goal.loop-variant-preserved
loop-variant-preserved g c =
    let l = c.loop-variant in
    let m = c.args.self.now in
    let x = c.variant-item.result in
    let said = c.in_ok-fields_are_sound.ensures.answer ∙ (λ i. fields_are_sound (models_in m) (conversions_in m) (l.invariant.keeps i) (c.fields.ensures i)) in
    record {
      left = one_passes variant_view (variant_sound (models_in m) (conversions_in m) (g.T.Texts.relations c.args.texts.now)) c.args.variants.now l.variant-index x c.loop-variant-test.true c.variant-item.is _ said _ c.if-not-branch.false l.invariant.left;
      keeps = c.in_ok-fields_are_sound.ensures.keeps ∙ l.invariant.keeps;
      counts = omega (arith, l.invariant.counts, c.in_ok-fields_are_sound.ensures.counts);
    }

pub returns-then-not-branch-clause-answer : goal.returns-then-not-branch-clause-answer
returns-then-not-branch-clause-answer g c =
    let l = c.loop-variant in
    let m = c.args.self.now in
    let x = c.variant-item.result in
    let said = c.in_ok-fields_are_sound.ensures.answer ∙ (λ i. fields_are_sound (models_in m) (conversions_in m) (l.invariant.keeps i) (c.fields.ensures i)) in
    one_fails variant_view (variant_sound (models_in m) (conversions_in m) (g.T.Texts.relations c.args.texts.now)) c.args.variants.now l.variant-index x c.loop-variant-test.true c.variant-item.is _ said _ c.if-not-branch.true l.invariant.left

pub returns-clause-answer : goal.returns-clause-answer
returns-clause-answer g c =
    let l = c.loop-variant in
    let m = c.args.self.now in
    all_pass variant_view (variant_sound (models_in m) (conversions_in m) (g.T.Texts.relations c.args.texts.now)) c.args.variants.now l.variant-index _ c.loop-variant-test.false l.invariant.left
