use Rattle.std.proofs.Common.{◌≡◌, ◌<◌, ◌++◌, ◌∷◌, [], length, ap, sym, ◌∙◌, subst, arith, reverse}
use Rattle.std.proofs.lemmas.List.{get_or_read}
use Rattle.reference_graph.specs.Graph.{GoesRound}
use Rattle.reference_graph.specs.Trail.{node_at, parent_at}
use Rattle.reference_graph.proofs.Trails.{goes_up, goes_all}
use Rattle.reference_graph.proofs.search.Trail.path.Goals as goal

pub loop-place-preserved : goal.loop-place-preserved
loop-place-preserved c =
    let t = c.args.self.now in
    let place = c.loop-place.place in
    let p : 0 < place = omega arith in
    let h : place < length t.nodes.items = omega (arith, c.loop-place.invariant.0) in
    let paired = c.requires.climb.paired in
    let earlier : parent_at t place < place = c.requires.climb.earlier place p h in
    let i : c.index.result.now ≡ node_at t place = get_or_read t.nodes.items place c.index.result.now h c.index.ensures 0 in
    let j : c.index-place.result.now ≡ parent_at t place = get_or_read t.parents.items place c.index-place.result.now (omega arith) c.index-place.ensures 0 in
    let e : c.push.new.self.items ≡ c.loop-place.path.items ++ node_at t place ∷ [] = c.in_ok-push.ensures.items ∙ ap (λ x. c.loop-place.path.items ++ x ∷ []) i in (
      omega arith,
      λ g start trail r.
          subst (λ k. GoesRound g start (node_at t k) (reverse c.push.new.self.items)) (sym j)
          (goes_up g start t place c.loop-place.path.items c.push.new.self.items trail p h e (c.loop-place.invariant.1 g start trail r)),
    )

pub returns : goal.returns
returns c =
    λ g start trail r.
    let t = c.args.self.now in
    let z : 0 ≡ c.loop-place.place = omega (arith, c.loop-place-test.false) in
    let i : c.index-2.result.now ≡ node_at t 0 = get_or_read t.nodes.items 0 c.index-2.result.now trail.filled c.index-2.ensures 0 in
    goes_all g start t c.loop-place.path.items c.push-2.new.self.items c.reverse.new.self.items trail
    (c.in_ok-push-2.ensures.items ∙ ap (λ x. c.loop-place.path.items ++ x ∷ []) i) c.reverse.ensures.items
    (subst (λ k. GoesRound g start (node_at t k) (reverse c.loop-place.path.items)) (sym z) (c.loop-place.invariant.1 g start trail r))
