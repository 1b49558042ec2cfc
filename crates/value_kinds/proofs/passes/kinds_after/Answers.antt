use Rattle.std.proofs.Common.{◌≡◌, ◌≤◌, arith, rules}
use Rattle.reference_graph.specs.Graph.{graph_of}
use Rattle.value_kinds.specs.Rounds.{next_kinds}
use Rattle.value_kinds.proofs.Found.{quiet}
use Rattle.value_kinds.proofs.passes.kinds_after.Goals as goal

pub returns-then-quiet : goal.returns-then-quiet
returns-then-quiet c =
    let l = c.loop-round in
    let owns = c.args.owns.now in
    let rows = graph_of c.args.rows.now in
    let next = c.in_ok-next.next.items in
    let made : next ≡ next_kinds l.kinds.items owns rows = search rules in
    let same : next ≡ l.kinds.items = search rules in
    quiet owns rows l._round c.args.count l.kinds.items next (let below : l._round ≤ c.args.count = omega (arith, c.loop-round-test.true) in below) l.invariant made same
