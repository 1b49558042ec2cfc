use Rattle.std.proofs.Common.{◌≡◌, drop}
use Rattle.model_defs.specs.Reads.{leads_to_option}
use Rattle.value_models.specs.ContainersView.{containers_in}
use Rattle.value_models.specs.VariantView.{variants_view}
use Rattle.example_values.specs.Known.{rounds_of}
use Rattle.example_values.specs.Ready.{first_ready_within}
use Rattle.example_values.proofs.choosing.first_ready.Given as goal

abbrev pub invariant-loop-variant : goal.invariant-loop-variant
invariant-loop-variant l =
    let ms = containers_in l.places.containers.now in
    let leads = leads_to_option ms in
    let item = rounds_of ms l.rounds in
    first_ready_within leads item l.count (variants_view (drop l.variant-index l.list)) ≡ first_ready_within leads item l.count (variants_view l.list)
