use Rattle.std.proofs.Common.{◌≡◌, ◌∷◌, get_or, refl, sym, subst}
use Rattle.schema_types.specs.DocumentView.{document_view}
use Rattle.reference_graph.specs.Graph as graph
use Rattle.schema_loops.specs.Named.{named_graph}
use Rattle.schema_loops.specs.Round.{BeginsAt}
use Rattle.schema_loops.proofs.Rounds.{way_goes_on, way_comes_back, comes_round}
use Rattle.schema_loops.proofs.walk.walk_round.Goals as goal

pub loop-number-preserved : goal.loop-number-preserved
loop-number-preserved c = λ h r.
    way_goes_on (document_view c.args.document.now) c.in-Some.first.now c.loop-number.at (get_or c.in-Some.rest.now c.loop-number.number-index 0) c.loop-number.number-index c.in-Some.rest.now c.loop-number.places.items
    c.push_way.new.places.items c.loop-number-test.true refl (c.loop-number.invariant h r) (c.in_ok-push_way.ensures h)

pub returns-clause-round : goal.returns-clause-round
returns-clause-round c = λ h r.
    let d = document_view c.args.document.now in
    let p : c.args.path.now ≡ c.in-Some.first.now ∷ c.in-Some.rest.now = c.in-Some.ensures.cases.0 in
    let round = subst (graph.IsLoop (named_graph d)) p r in
    comes_round d c.in-Some.first.now c.push_way-2.new.places.items
    (way_comes_back d c.in-Some.first.now c.loop-number.at c.loop-number.number-index c.in-Some.rest.now c.loop-number.places.items c.push_way-2.new.places.items c.loop-number-test.false
    (c.loop-number.invariant h round) round (c.in_ok-push_way-2.ensures h))

pub returns-clause-start : goal.returns-clause-start
returns-clause-start c = λ h r.
    let d = document_view c.args.document.now in
    let p : c.args.path.now ≡ c.in-Some.first.now ∷ c.in-Some.rest.now = c.in-Some.ensures.cases.0 in
    let round = subst (graph.IsLoop (named_graph d)) p r in
    let back =
    way_comes_back d c.in-Some.first.now c.loop-number.at c.loop-number.number-index c.in-Some.rest.now c.loop-number.places.items c.push_way-2.new.places.items c.loop-number-test.false
    (c.loop-number.invariant h round) round (c.in_ok-push_way-2.ensures h)
    in
    subst (λ path. BeginsAt d path c.push_way-2.new.places.items) (sym p) (back.0, back.1)
