-- The item at the place has the shape, and the keys are as they were.
use Rattle.std.proofs.Common.{arith}
use Rattle.entry_types.specs.View.{shape_view}
use Rattle.entry_space.proofs.Filled.{length-filled, keyed-filled, seen-filled, none-filled}
use Rattle.entry_space.proofs.space.EntrySpace.fill.Goals as goal

pub invariant_of-self : goal.invariant_of-self
invariant_of-self c =
    let e = length-filled c.args.self.now.entries.entries c.args.id.0 c.set_shape.new.entry in
    record {
      keyed = keyed-filled (shape_view c.args.shape) c.in-Some.entry.now c.set_shape.new.entry c.set_shape.ensures c.args.self.now.entries.entries c.args.id.0 c.args.self.now.keyed c.in-Some.ensures.value;
      few = omega (arith, e, c.args.self.now.few);
    }

pub returns-in-Some : goal.returns-in-Some
returns-in-Some c = seen-filled (shape_view c.args.shape) c.in-Some.entry.now c.set_shape.new.entry c.set_shape.ensures c.args.self.now.entries.entries c.args.id.0 c.in-Some.ensures.value

pub returns-in-None : goal.returns-in-None
returns-in-None c = none-filled (shape_view c.args.shape) c.args.self.now.entries.entries c.args.id.0 c.in-None.ensures.value
