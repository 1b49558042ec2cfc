use Rattle.std.proofs.Common.{reverse, subst, sym}
use Rattle.evolve_rows.specs.PlaceView.{table_view}
use Rattle.evolve_rows.specs.TurnView.{pair_view}
use Rattle.evolve_walks.specs.Way.{IsWay, marks_view}
use Rattle.evolve_walks.proofs.Ways.{way_begins}
use Rattle.evolve_walks.proofs.way.way_to.Goals as goal

pub returns : goal.returns
returns c =
    let old = table_view c.args.tables.now.old in
    let new = table_view c.args.tables.now.new in
    subst (λ ms. IsWay old new (pair_view c.args.start) (pair_view c.args.to) (marks_view ms)) (sym c.reverse.ensures.items)
    (way_begins old new (pair_view c.args.start) (pair_view c.in_ok-trail.trail.at) (pair_view c.args.to) (marks_view (reverse c.in_ok-trail.trail.marks.items)) c.are_same.result c.are_same.ensures c.if-not-are_same.false
    c.in_ok-trail.ensures)
