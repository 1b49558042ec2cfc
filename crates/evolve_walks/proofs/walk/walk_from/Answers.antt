use Rattle.std.proofs.Common.{sym, ap, ◌∙◌}
use Rattle.evolve_rows.specs.PlaceView.{table_view}
use Rattle.evolve_rows.specs.TurnView.{pair_view, pairs_view, turn_view}
use Rattle.evolve_walks.specs.Walking.{left_view, next_view, seen_view}
use Rattle.evolve_walks.proofs.Rounds.{goes_on}
use Rattle.evolve_walks.proofs.walk.walk_from.Goals as goal

pub loop-round-preserved : goal.loop-round-preserved
loop-round-preserved c =
    goes_on (table_view c.args.tables.now.old) (table_view c.args.tables.now.new) (pair_view c.args.start) (seen_view c.loop-round.seen) (left_view c.loop-round.left.items) (seen_view c.enter.new.self)
    (left_view c.put_first.new.left.items) (pair_view c.in-Some.pair) (left_view c.next_unseen.new.left.items) (pairs_view c.in-Goes.pairs.items)
    (ap (λ o. next_view o c.next_unseen.new.left.items) (sym c.in-Some.is) ∙ c.in_ok-next.ensures) (ap turn_view (sym c.in-Goes.is) ∙ c.in_ok-turn.ensures) c.in_ok-enter-in-Goes.ensures
    c.in_ok-put_first-in-Goes.ensures c.loop-round.invariant
