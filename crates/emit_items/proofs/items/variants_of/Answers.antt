use Rattle.emit_types.specs.Asked.{space_view, same_part, leads_by}
use Rattle.emit_items.proofs.Loops.{variants_turn, kept_by_turn}
use Rattle.emit_items.proofs.items.variants_of.Goals as goal

pub loop-from-preserved : goal.loop-from-preserved
loop-from-preserved c = record {
  trees = variants_turn (space_view c.args.entries.now) (same_part c.args.parts.now) (leads_by c.args.leads.now) c.args.owner c.args.variants.now c.loop-from.from-index c.from-item.result c.loop-from.trees.items
      c.push.new.self.items c.in_ok-variant_of.field-0 c.loop-from.defaults.items c.variant_of.new.defaults.items _ c.loop-from-test.true c.from-item.is c.in_ok-push.ensures.items c.in_ok-variant_of.ensures.tree
      c.in_ok-variant_of.ensures.defaults c.loop-from.invariant.trees;
  defaults = kept_by_turn c.args.variants.now c.loop-from.from-index c.from-item.result c.loop-from.defaults.items c.variant_of.new.defaults.items _ c.loop-from-test.true c.from-item.is
      c.in_ok-variant_of.ensures.defaults c.loop-from.invariant.defaults;
}
