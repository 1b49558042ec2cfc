use Rattle.std.proofs.Common.{◌<◌, below_more, arith, length}
use Rattle.reference_graph.specs.Graph.{graph_of}
use Rattle.reference_graph.specs.Trail.{IsDone}
use Rattle.reference_graph.proofs.Trails.{done_still, no_way_back}
use Rattle.reference_graph.proofs.search.loop_through.Goals as goal

pub loop-at-preserved : goal.loop-at-preserved
loop-at-preserved c =
    let e = c.in_ok-extend.ensures in
    let g = graph_of c.args.edges.now in
    let at : c.loop-at.at < length c.loop-at.trail.nodes.items = omega (arith, c.len.ensures) in (
      e.trail,
      below_more (λ k. IsDone g c.args.start c.extend.new.self k) c.loop-at.at
          (λ k h. done_still g c.args.start c.loop-at.trail c.extend.new.self k e.extends (omega arith) (c.loop-at.invariant.1 k h))
          (e.done c.if-branch.false),
    )

pub returns-clause-none : goal.returns-clause-none
returns-clause-none c =
    let g = graph_of c.args.edges.now in
    no_way_back g c.args.start c.loop-at.trail c.loop-at.invariant.0 (λ k h. c.loop-at.invariant.1 k (omega (arith, c.len.ensures, c.loop-at-test.false)))
