use Rattle.std.proofs.Common.{◌≡◌, drop}
use Rattle.std.specs.List.{list_any}
use Rattle.evolve_rows.specs.TurnView.{pair_view, pairs_view}
use Rattle.evolve_walks.specs.Same.{same_spots}
use Rattle.evolve_walks.proofs.entered.Seen.is_among.Given as goal

abbrev pub invariant-loop-other : goal.invariant-loop-other
invariant-loop-other l =
    list_any (same_spots (pair_view l.pair)) (pairs_view l.self.pairs.items) ≡ list_any (same_spots (pair_view l.pair)) (pairs_view (drop l.other-index l.self.pairs.items))
