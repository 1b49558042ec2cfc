use Rattle.std.proofs.Common.{◌≡◌, length, below_more, rules}
use Rattle.value_models.specs.ContainersView.{containers_in}
use Rattle.example_values.proofs.Settled.{Stays, all_settled}
use Rattle.example_values.proofs.counting.are_settled.Goals as goal

pub loop-place-preserved : goal.loop-place-preserved
loop-place-preserved c = λ cs g.
    let ms = containers_in c.args.places.now.containers.now in
    below_more (λ i. Stays ms c.args.rounds.now cs i) c.loop-place.place (c.loop-place.invariant cs g) (c.in_ok-stays.ensures cs g c.if-not-branch.false)

pub returns : goal.returns
returns c = λ cs g e.
    let ms = containers_in c.args.places.now.containers.now in
    let many : length c.args.rounds.now ≡ length c.args.containers.now = search rules in
    all_settled ms c.args.rounds.now c.args.containers.now c.loop-place.place c.requires.whole many c.loop-place-test.false cs (c.loop-place.invariant cs g)
