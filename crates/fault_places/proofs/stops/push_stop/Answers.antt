use Rattle.std.proofs.Common.{◌≡◌, ◌∙◌, length, string_bytes, arith}
use Rattle.fault_places.proofs.Said.{at_the_end}
use Rattle.fault_places.proofs.stops.push_stop.Goals as goal

pub returns-then-next-eq0 : goal.returns-then-next-eq0
returns-then-next-eq0 c =
    let e : length c.args.next.now ≡ 0 = omega (arith, c.if-next-eq0.true) in
    c.in_ok-push_line.ensures ∙ at_the_end (string_bytes c.args.out.now) c.args.next.now c.args.read e
