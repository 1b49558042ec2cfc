use Rattle.std.proofs.Common.{option_map, sym, ap, ◌∙◌}
use Rattle.json_value.specs.View.{kept_view}
use Rattle.conversion_table.specs.Conversions.{conversions_view}
use Rattle.value_models.specs.ContainersView.{containers_in}
use Rattle.value_models.specs.ContainerView.{tag_view, variants_in}
use Rattle.value_models.specs.VariantView.{variant_view}
use Rattle.example_values.specs.Chosen.{chosen_view}
use Rattle.example_values.proofs.Items.{by_variant, by_contents}
use Rattle.example_values.proofs.making.+making.Goals as goal

pub enum_made-returns : goal.enum_made-returns
enum_made-returns t c =
    let s = c.args.counted.now in
    by_variant (containers_in s.places.containers.now) (conversions_view s.conversions.now) (tag_view c.args.tag.now) (variants_in c.args.variants.now) c.in-Some.chosen.name.now (variant_view c.in-Some.chosen.variant.now)
    (option_map chosen_view c.in_ok-found.found) (kept_view c.in_ok-value.value) c.in_ok-found.ensures (ap (option_map chosen_view) c.in-Some.is) c.in_ok-value.ensures

pub variant_made-returns : goal.variant_made-returns
variant_made-returns t c =
    let s = c.args.counted.now in
    by_contents (containers_in s.places.containers.now) (conversions_view s.conversions.now) (tag_view c.args.tag.now) c.args.name.now (variant_view c.args.variant.now)
    (kept_view c.in_ok-contents.contents) (kept_view c.in_ok-value-2.value) (sym c.is_unit.ensures ∙ c.if-is_unit.false) c.in_ok-contents.ensures c.in_ok-value-2.ensures
