use Rattle.emit_types.specs.Asked.{space_view}
use Rattle.emit_space.specs.View.{emission_view}
use Rattle.emit_space.proofs.Exact.{emits}
use Rattle.emit_space.proofs.emitting.emit.Goals as goal

pub returns : goal.returns
returns c =
    emits (space_view c.args.entries.now) c.in_ok-rows.rows.items c.in_ok-rows.ensures c.deref.result.now c.deref.ensures.value c.in_ok-numbers.numbers c.in_ok-numbers.ensures.sized c.in_ok-numbers.ensures.parts
    c.deref-2.result.now c.deref-2.ensures.value c.in_ok-next.next.items c.in_ok-next.ensures c.deref-3.result.now c.deref-3.ensures.value c.in_ok-answers.answers.items c.in_ok-answers.ensures.leads
    c.deref-4.result.now c.deref-4.ensures.value c.deref-5.result.now c.deref-5.ensures.value c.args.root.0 (emission_view c.in_ok-emission.emission) c.in_ok-emission.ensures
