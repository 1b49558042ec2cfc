use Rattle.std.proofs.Common.{◌≡◌, ◌+◌, ◌-◌, ◌<◌, ◌≤◌, length, arith}
use Rattle.model_defs.specs.Reads.{leads_to_option}
use Rattle.value_models.specs.ContainersView.{containers_in}
use Rattle.value_models.specs.ContainerView.{variants_in}
use Rattle.example_values.specs.Known.{rounds_of}
use Rattle.example_values.proofs.Backwards.{one_found}
use Rattle.example_values.proofs.bodies.found_rounds.Goals as goal

pub loop-left-preserved : goal.loop-left-preserved
loop-left-preserved c =
    let ms = containers_in c.args.places.now.containers.now in
    let l = c.loop-left in
    let within : l.left ≤ length c.args.list.now = l.invariant.0 in
    let one : l.left - 1 + 1 ≡ l.left = omega (arith, c.loop-left-test.true) in
    let below : l.left - 1 < length c.args.list.now = omega (arith, c.loop-left-test.true, within) in (
      omega (arith, within),
      one_found (leads_to_option ms) (rounds_of ms c.args.rounds.now) c.args.list.now (variants_in c.args.variants.now) l.left (l.left - 1) c.index-list-left.result l.whole c.in_ok-whole.whole c.requires.whole one below
          c.index-list-left.is c.in_ok-whole.ensures l.invariant.1,
    )
