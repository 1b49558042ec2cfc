use Rattle.std.proofs.Common.{arith}
use Rattle.row_findings.specs.View.{tag_view}
use Rattle.tree_names.proofs.Turns.{variants_wanted_turn, variants_wanted_end}
use Rattle.tree_names.proofs.identify.wanted_of_variants.Goals as goal

pub loop-variant-preserved : goal.loop-variant-preserved
loop-variant-preserved c =
    variants_wanted_turn (tag_view c.args.tag) _ c.want_variant.new.names c.deref-variant-items.result.now c.loop-variant.variant-index c.variant-item.result c.loop-variant.invariant c.loop-variant-test.true c.variant-item.is c.in_ok-want_variant.ensures

pub returns : goal.returns
returns c = variants_wanted_end (tag_view c.args.tag) _ c.deref-variant-items.result.now c.args.variants.now.items c.loop-variant.variant-index c.loop-variant.invariant (omega arith) c.deref-variant-items.ensures.value
