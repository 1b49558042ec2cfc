use Rattle.std.proofs.Common.{below_more}
use Rattle.example_parts.specs.SettingView.{conversions_of, models_of}
use Rattle.example_values.specs.Causes.{IsMarkedOdd}
use Rattle.example_values.proofs.Answered.{odd_turn, odd_stop, odd_end}
use Rattle.example_values.proofs.outside.first_odd.Goals as goal

pub returns-then-is_odd_at : goal.returns-then-is_odd_at
returns-then-is_odd_at c =
    odd_stop (models_of c.args.setting.now) (conversions_of c.args.setting.now) c.args.containers.now c.args.flags.now c.loop-place.place c.in_ok-place.place c.index-containers-place.result c.is_odd_at.result
    c.requires.whole c.loop-place-test.true c.index-containers-place.is c.is_odd_at.ensures c.if-is_odd_at.true c.in_ok-place.ensures c.loop-place.invariant

pub loop-place-preserved : goal.loop-place-preserved
loop-place-preserved c =
    let ms = models_of c.args.setting.now in
    let cs = conversions_of c.args.setting.now in
    below_more (λ i. IsMarkedOdd ms cs c.args.flags.now i → ⊥) c.loop-place.place c.loop-place.invariant
    (odd_turn ms cs c.args.containers.now c.args.flags.now c.loop-place.place c.index-containers-place.result c.is_odd_at.result c.requires.whole c.loop-place-test.true c.index-containers-place.is
    c.is_odd_at.ensures c.if-is_odd_at.false)

pub returns : goal.returns
returns c =
    odd_end (models_of c.args.setting.now) (conversions_of c.args.setting.now) c.args.containers.now c.args.flags.now c.loop-place.place c.requires.whole c.loop-place-test.false c.loop-place.invariant
