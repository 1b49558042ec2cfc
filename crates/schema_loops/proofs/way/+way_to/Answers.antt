use Rattle.std.proofs.Common.{arith, subst}
use Rattle.std.specs.Prelude.{IfSome}
use Rattle.schema_types.specs.View.{schema_view}
use Rattle.schema_loops.specs.Child.{child_view}
use Rattle.schema_loops.specs.Way.{numbered, HasWay}
use Rattle.schema_loops.proofs.Ways.{item_in, item_fewer, way_longer, lacks}
use Rattle.schema_loops.proofs.way.+way_to.Goals as goal

pub way_to-requires : goal.way_to-requires
way_to-requires t c =
    let h = item_fewer (schema_view c.args.schema.now) c.in_ok-children.children.items c.deref-child-items.result.now c.loop-child.child-index c.child-item.result c.deref-child-items.ensures.value c.in_ok-children.ensures c.loop-child-test.true c.child-item.is in
    (omega (arith, h, c.decreases), tt)

pub returns-in-Some-clause-some : goal.returns-in-Some-clause-some
returns-in-Some-clause-some t c =
    let s = schema_view c.args.schema.now in
    let inside = item_in s c.in_ok-children.children.items c.deref-child-items.result.now c.loop-child.child-index c.child-item.result c.deref-child-items.ensures.value c.in_ok-children.ensures c.loop-child-test.true c.child-item.is in
    let f = numbered c.args.numbers.now in
    way_longer f c.args.number s (child_view c.child-item.result) c.in-Some.way.items c.push.new.self.items c.in_ok-try_clone.field-0 inside
    (subst (λ o. IfSome o (λ ks. HasWay f c.args.number (schema_view c.child-item.result.schema.now) ks.items)) c.in-Some.is c.in_ok-way.ensures.some)
    c.in_ok-push.ensures.items c.in_ok-try_clone.ensures

pub returns-clause-none : goal.returns-clause-none
returns-clause-none t c =
    lacks (numbered c.args.numbers.now) c.args.number (schema_view c.args.schema.now) c.in_ok-refers_to.field-0 c.in_ok-children.children.items c.deref-child-items.result.now c.loop-child.child-index
    c.in_ok-refers_to.ensures c.if-branch.false c.deref-child-items.ensures.value c.in_ok-children.ensures c.loop-child.invariant c.loop-child-test.false
