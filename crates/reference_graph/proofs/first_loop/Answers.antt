use Rattle.std.proofs.Common.{◌≡◌, length, get_or, subst, arith, refl, below_more}
use Rattle.std.proofs.lemmas.List.{get_or_read}
use Rattle.reference_graph.specs.Graph.{graph_of, Leads, IsLoopFrom}
use Rattle.reference_graph.specs.Ranking.{IsRanking}
use Rattle.reference_graph.proofs.Routes.{acyclic_below, loop_leads, loop_is, loop_least, ranked_on_no_loop, graph_length}
use Rattle.reference_graph.proofs.first_loop.Goals as goal

pub loop-start-preserved-then-index-gt0 : goal.loop-start-preserved-then-index-gt0
loop-start-preserved-then-index-gt0 c =
    let g = graph_of c.args.edges.now in
    let ranks = c.in_ok-ranks.ranks.items in
    let n : length ranks ≡ length c.args.edges.now = omega (arith, c.in_ok-ranks.ensures) in
    let i : c.index.result.now ≡ get_or ranks c.loop-start.start 0 = get_or_read ranks c.loop-start.start c.index.result.now (omega arith) c.index.ensures 0 in
    below_more (λ k. ¬ (Leads g k k)) c.loop-start.start c.loop-start.invariant
    (ranked_on_no_loop g ranks (subst (λ rs. IsRanking g rs) c.deref.ensures.value (c.if-ranked.ensures refl)) c.loop-start.start (omega arith))

pub returns-in-Some-clause-none : goal.returns-in-Some-clause-none
returns-in-Some-clause-none c =
    let g = graph_of c.args.edges.now in
    let p : IsLoopFrom g c.loop-start.start c.in-Some.path.items = rw c.in-Some.is at c.in_ok-path.ensures.path in (
      λ e. cc,
      λ h. absurd (h c.loop-start.start (loop_leads g c.loop-start.start c.in-Some.path.items p)),
    )

pub returns-in-Some-clause-path : goal.returns-in-Some-clause-path
returns-in-Some-clause-path c =
    let g = graph_of c.args.edges.now in
    loop_is g c.loop-start.start c.in-Some.path.items (rw c.in-Some.is at c.in_ok-path.ensures.path)

pub returns-in-Some-clause-least : goal.returns-in-Some-clause-least
returns-in-Some-clause-least c =
    let g = graph_of c.args.edges.now in
    loop_least g c.loop-start.start c.in-Some.path.items (rw c.in-Some.is at c.in_ok-path.ensures.path) c.loop-start.invariant

pub returns-clause-none : goal.returns-clause-none
returns-clause-none c =
    let g = graph_of c.args.edges.now in (
      λ e. acyclic_below g c.loop-start.start (let t = c.loop-start-test.false in omega (arith, graph_length c.args.edges.now)) c.loop-start.invariant,
      λ h. refl,
    )
