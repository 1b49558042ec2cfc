use Rattle.std.proofs.Common.{◌∙◌, sym, arith}
use Rattle.whole_numbers.proofs.Segments.{starts, grows, ends, finishes}
use Rattle.whole_numbers.proofs.whole_numbers.Goals as goal

pub loop-i-init : goal.loop-i-init
loop-i-init c = (omega arith, starts c.args.bytes.now c.in_ok-done.done.items c.in_ok-done.ensures.items)

pub loop-i-preserved-then-is_in_run : goal.loop-i-preserved-then-is_in_run
loop-i-preserved-then-is_in_run c =
    (omega arith, grows c.args.bytes.now c.loop-i.done.items c.loop-i.start c.loop-i.i c.loop-i.place c.loop-i.invariant.0 (omega arith) (sym c.is_in_run.ensures ∙ c.if-is_in_run.true) c.loop-i.invariant.1)

pub loop-i-preserved : goal.loop-i-preserved
loop-i-preserved c =
    (omega arith, ends c.args.bytes.now c.loop-i.done.items c.extend_from_slice.new.self.items c.push.new.self.items c.whole_number.result.now c.loop-i.start c.loop-i.i c.loop-i.place c.after-place.result c.loop-i.invariant.0 (omega arith) (sym c.is_in_run.ensures ∙ c.if-is_in_run.false) c.whole_number.ensures c.in_ok-extend_from_slice.ensures.items c.in_ok-push.ensures.items c.after-place.ensures c.loop-i.invariant.1)

pub returns : goal.returns
returns c =
    record { rewritten = finishes c.args.bytes.now c.loop-i.done.items c.extend_from_slice-2.new.self.items c.whole_number-2.result.now c.loop-i.start c.loop-i.i c.loop-i.place (omega arith) c.whole_number-2.ensures c.in_ok-extend_from_slice-2.ensures.items c.loop-i.invariant.1 }
