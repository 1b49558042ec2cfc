use Rattle.model_defs.specs.Reads.{leads_to_option}
use Rattle.value_models.specs.ContainersView.{containers_in}
use Rattle.value_models.specs.ContainerView.{variants_in}
use Rattle.example_values.specs.Known.{rounds_of}
use Rattle.example_values.proofs.FirstReady.{found_turn}
use Rattle.example_values.proofs.choosing.first_found.Goals as goal

pub loop-place-preserved : goal.loop-place-preserved
loop-place-preserved c =
    let ms = containers_in c.args.places.now.containers.now in
    found_turn (leads_to_option ms) (rounds_of ms c.args.rounds.now) c.args.count c.args.list.now (variants_in c.args.variants.now) c.requires.whole c.loop-place.place c.index-list-place.result
    c.loop-place-test.true c.index-list-place.is c.in_ok-chosen.chosen c.is_some.result _ c.in_ok-chosen.ensures c.is_some.ensures c.if-is_some.false c.loop-place.invariant
