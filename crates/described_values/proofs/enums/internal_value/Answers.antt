use Rattle.json_value.specs.View.{kept_view}
use Rattle.value_models.specs.VariantView.{variant_view}
use Rattle.described_values.specs.Shown.{beside_internal, entries_view}
use Rattle.described_values.proofs.Tagged.{tagged_is}
use Rattle.described_values.proofs.enums.internal_value.Goals as goal

pub returns : goal.returns
returns c =
    let w = variant_view c.args.variant.now in
    tagged_is c.args.tag.now w (beside_internal w) (entries_view c.in_ok-entries.entries) (kept_view c.in_ok-value.value) c.in_ok-entries.ensures c.in_ok-value.ensures
