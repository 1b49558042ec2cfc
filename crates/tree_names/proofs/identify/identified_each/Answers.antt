use Rattle.std.proofs.Common.{sym, ◌∙◌}
use Rattle.std.specs.Vec.Iter.{into_iter_items}
use Rattle.row_findings.specs.View.{tag_view}
use Rattle.tree_names.proofs.Turns.{no_items, variants_identified_turn, variants_identified_end}
use Rattle.tree_names.proofs.identify.identified_each.Goals as goal

pub loop-variant-preserved : goal.loop-variant-preserved
loop-variant-preserved c =
    variants_identified_turn (tag_view c.args.tag) _ _ _ c.loop-variant.identified.items c.push.new.self.items (into_iter_items c.loop-variant.variant-iterator) (into_iter_items c.next.new.self) c.args.variants.items c.in-Some.variant
    c.in_ok-variant.variant c.loop-variant.invariant c.in-Some.ensures.steps.0 c.in_ok-push.ensures.items c.in_ok-variant.ensures

pub returns : goal.returns
returns c =
    variants_identified_end (tag_view c.args.tag) _ _ c.loop-variant.identified.items (into_iter_items c.loop-variant.variant-iterator) c.args.variants.items c.loop-variant.invariant
    (no_items (into_iter_items c.loop-variant.variant-iterator) (sym c.loop-variant.variant-iterator.rest.ok.0 ∙ c.in-None.ensures.steps.0))
