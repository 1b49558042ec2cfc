use Rattle.std.proofs.Common.{ℕ, List, map, option_map, slice_get, string_bytes, Bor, ap, ◌∙◌}
use Rattle.name_tables.specs.Names.{place_of}
use Rattle.value_models.specs.ContainerView.{variants_in}
use Rattle.value_models.specs.VariantView.{variant_view}
use Rattle.value_models.specs.Names.{variant_names}
use Rattle.example_defs.specs.Built.{first_that}
use Rattle.example_parts.specs.Places.{is_at}
use Rattle.example_parts.proofs.FoundNames.{variant_there}
use Rattle.example_parts.proofs.names.found_variant.Goals as goal

pub returns-in-Some : goal.returns-in-Some
returns-in-Some c =
    variant_there (variants_in c.args.variants.now) c.args.place (variant_view c.in-Some.variant.now) (option_map (λ (n : Bor (List ℕ)). n.now) c.variant_at.result)
    (c.in-Some.ensures ∙ ap (λ xs. slice_get xs c.args.place) c.variants.ensures)
    (c.variant_at.ensures ∙ ap (λ ns. first_that (λ n. is_at c.args.place (place_of n (variant_names 0 (variants_in c.args.variants.now)))) (map string_bytes ns)) c.deref.ensures.value)
