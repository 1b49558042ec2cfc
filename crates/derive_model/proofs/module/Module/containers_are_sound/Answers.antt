use Rattle.std.proofs.Common.{◌∙◌, ap, arith}
use Rattle.reading_defs.specs.Laws.{body_is_sound}
use Rattle.value_models.specs.ContainerView.{body_view, container_view}
use Rattle.derive_model.specs.ModuleView.{conversions_in, models_in}
use Rattle.derive_model.proofs.SoundParts.{container_sound, one_passes, one_fails, all_pass}
use Rattle.derive_model.proofs.module.Module.containers_are_sound.Goals as goal

pub loop-container-preserved : goal.loop-container-preserved
loop-container-preserved g c =
    let l = c.loop-container in
    let m = c.args.self.now in
    let x = c.container-item.result in
    let said = c.in_ok-body_is_sound.ensures.answer ∙ ap (λ r. body_is_sound (models_in m) (conversions_in m) r (body_view x.body)) l.invariant.keeps in
    record {
      left = one_passes container_view (container_sound (models_in m) (conversions_in m) (g.T.Texts.relations c.args.texts.now)) c.args.containers.now l.container-index x c.loop-container-test.true c.container-item.is _ said _ c.if-not-branch.false l.invariant.left;
      keeps = c.in_ok-body_is_sound.ensures.keeps ∙ l.invariant.keeps;
      counts = omega (arith, l.invariant.counts, c.in_ok-body_is_sound.ensures.counts);
    }

pub returns-then-not-branch-clause-answer : goal.returns-then-not-branch-clause-answer
returns-then-not-branch-clause-answer g c =
    let l = c.loop-container in
    let m = c.args.self.now in
    let x = c.container-item.result in
    let said = c.in_ok-body_is_sound.ensures.answer ∙ ap (λ r. body_is_sound (models_in m) (conversions_in m) r (body_view x.body)) l.invariant.keeps in
    one_fails container_view (container_sound (models_in m) (conversions_in m) (g.T.Texts.relations c.args.texts.now)) c.args.containers.now l.container-index x c.loop-container-test.true c.container-item.is _ said _ c.if-not-branch.true l.invariant.left

pub returns-clause-answer : goal.returns-clause-answer
returns-clause-answer g c =
    let l = c.loop-container in
    let m = c.args.self.now in
    all_pass container_view (container_sound (models_in m) (conversions_in m) (g.T.Texts.relations c.args.texts.now)) c.args.containers.now l.container-index _ c.loop-container-test.false l.invariant.left
