use Rattle.value_models.specs.ContainerView.{tag_view}
use Rattle.described_values.proofs.Tagged.{no_more}
use Rattle.described_values.proofs.enums.variant_values.Goals as goal

pub returns : goal.returns
returns c = no_more c.args.closed (tag_view c.args.tag.now) c.args.variants.now c.loop-variant.variant-index c.loop-variant.values.items c.loop-variant-test.false c.loop-variant.invariant
