use Rattle.std.proofs.Common.{sym, ap, ◌∙◌}
use Rattle.std.specs.List.{list_any}
use Rattle.evolve_rows.specs.TurnView.{pair_view, pairs_view}
use Rattle.evolve_walks.specs.Same.{same_spots}
use Rattle.evolve_walks.proofs.Found.{found_at}
use Rattle.evolve_walks.proofs.entered.Seen.is_at.Goals as goal

pub returns-in-Some : goal.returns-in-Some
returns-in-Some c =
    λ h. ap (λ ps. list_any (same_spots (pair_view c.args.pair)) (pairs_view ps)) (sym c.deref.ensures.value)
    ∙ found_at (pair_view c.args.pair) c.deref.result.now c.args.place c.in-Some.other c.in-Some.ensures.lookup (sym c.are_same.ensures ∙ h)
