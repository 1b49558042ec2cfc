use Rattle.std.proofs.Common.{◌≡◌, [], drop}
use Rattle.model_defs.specs.Reads.{leads_to_option}
use Rattle.value_models.specs.ContainersView.{containers_in}
use Rattle.value_models.specs.ContainerView.{variants_in}
use Rattle.value_models.specs.VariantView.{variants_view}
use Rattle.example_parts.specs.Names.{names_before, names_of_variants}
use Rattle.example_values.specs.Known.{rounds_of}
use Rattle.example_values.specs.Ready.{first_found_within}
use Rattle.example_values.proofs.choosing.first_found.Given as goal

abbrev pub invariant-loop-place : goal.invariant-loop-place
invariant-loop-place l =
    let ms = containers_in l.places.containers.now in
    let leads = leads_to_option ms in
    let item = rounds_of ms l.rounds in
    first_found_within leads item l.count (names_before [] (names_of_variants (variants_in l.variants)) l.place) (variants_view (drop l.place l.list)) ≡ first_found_within leads item l.count [] (variants_in l.variants)
