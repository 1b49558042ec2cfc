use Rattle.std.proofs.Common.{option_map, slice_get, ap, ◌∙◌}
use Rattle.value_models.specs.ContainerView.{variants_in}
use Rattle.value_parts.proofs.FirstOfName.{variant_there, variant_nowhere}
use Rattle.value_parts.proofs.variants.variant_named.Goals as goal

pub returns-in-Some : goal.returns-in-Some
returns-in-Some c =
    variant_there (variants_in c.args.variants.now) c.args.name.now c.in-Some.place _ c.in-Some.ensures
    (c.variant_at.ensures ∙ ap (λ ws. option_map (λ w. (c.in-Some.place, w)) (slice_get ws c.in-Some.place)) c.variants.ensures)

pub returns-in-None : goal.returns-in-None
returns-in-None c = variant_nowhere (variants_in c.args.variants.now) c.args.name.now c.in-None.ensures
