use Rattle.std.proofs.Common.{sym, ◌∙◌}
use Rattle.std.specs.Vec.Iter.{into_iter_items}
use Rattle.tree_names.proofs.Turns.{no_items, fields_bound_turn, fields_bound_end}
use Rattle.tree_names.proofs.identify.bound_parts.Goals as goal

pub loop-part-preserved : goal.loop-part-preserved
loop-part-preserved c =
    fields_bound_turn c.args.items.now _ _ _ c.loop-part.identified.items c.push.new.self.items (into_iter_items c.loop-part.part-iterator) (into_iter_items c.next.new.self) c.args.fields.items c.in-Some.part c.in_ok-part.part c.loop-part.invariant
    c.in-Some.ensures.steps.0 c.in_ok-push.ensures.items c.in_ok-part.ensures

pub returns : goal.returns
returns c =
    fields_bound_end c.args.items.now _ _ c.loop-part.identified.items (into_iter_items c.loop-part.part-iterator) c.args.fields.items c.loop-part.invariant
    (no_items (into_iter_items c.loop-part.part-iterator) (sym c.loop-part.part-iterator.rest.ok.0 ∙ c.in-None.ensures.steps.0))
