use Rattle.std.proofs.Common.{option_map, ap, ◌∙◌}
use Rattle.conversion_table.specs.Conversions.{conversions_view}
use Rattle.model_defs.specs.Reads.{leads_to_option}
use Rattle.value_models.specs.ContainersView.{containers_in}
use Rattle.value_models.specs.ContainerView.{tag_view, variants_in}
use Rattle.example_values.specs.Fewest.{variants_fewest}
use Rattle.example_values.specs.Known.{rounds_of}
use Rattle.example_values.specs.Chosen.{chosen_view, first_within}
use Rattle.example_values.proofs.FirstReady.{none_chosen, one_chosen}
use Rattle.example_values.proofs.counted.Counted.chosen.Goals as goal

pub returns-in_ok-chosen-in-Some : goal.returns-in_ok-chosen-in-Some
returns-in_ok-chosen-in-Some c =
    let s = c.args.self.now in
    let ms = containers_in s.places.containers.now in
    let tag = tag_view c.args.tag.now in
    let ws = variants_in c.args.variants.now in
    one_chosen ms (conversions_view s.conversions.now) s.rounds.items s.counted tag ws c.in_ok-fewest.fewest c.in-Some.count (option_map chosen_view c.in_ok-chosen-in-Some.chosen)
    (c.in_ok-fewest.ensures ∙ ap (λ rs. variants_fewest (leads_to_option ms) (rounds_of ms rs) tag ws) c.deref.ensures.value)
    c.in-Some.is
    (c.in_ok-chosen-in-Some.ensures ∙ ap (λ rs. first_within (leads_to_option ms) (rounds_of ms rs) c.in-Some.count tag ws) c.deref-in-Some.ensures.value)

pub returns-in-None : goal.returns-in-None
returns-in-None c =
    let s = c.args.self.now in
    let ms = containers_in s.places.containers.now in
    let tag = tag_view c.args.tag.now in
    let ws = variants_in c.args.variants.now in
    none_chosen ms (conversions_view s.conversions.now) s.rounds.items s.counted tag ws c.in_ok-fewest.fewest
    (c.in_ok-fewest.ensures ∙ ap (λ rs. variants_fewest (leads_to_option ms) (rounds_of ms rs) tag ws) c.deref.ensures.value)
    c.in-None.is
