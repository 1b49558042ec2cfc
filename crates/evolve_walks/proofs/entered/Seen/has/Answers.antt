use Rattle.std.proofs.Common.{◌≡◌, None, sym, ap, ◌∙◌}
use Rattle.std.specs.BTreeMap.{get_by_text}
use Rattle.evolve_rows.specs.TurnView.{pair_view, pairs_view}
use Rattle.evolve_walks.specs.Same.{same_spots, spots_key}
use Rattle.evolve_walks.proofs.Found.{any_turned, not_entered}
use Rattle.evolve_walks.proofs.entered.Seen.has.Goals as goal

pub returns-in-Some : goal.returns-in-Some
returns-in-Some c = c.is_held.ensures ∙ sym (any_turned (same_spots (pair_view c.args.pair)) (pairs_view c.args.self.now.pairs.items))

pub returns : goal.returns
returns c =
    let none : None ≡ get_by_text c.args.self.now.last (spots_key (pair_view c.args.pair)) =
    c.in-None.ensures.value ∙ ap (get_by_text c.args.self.now.last) (c.as_str.ensures.value ∙ c.in_ok-key.ensures) in
    not_entered c.args.self.now.last (pairs_view c.args.self.now.pairs.items) (pair_view c.args.pair) c.args.self.now.keyed none
    ∙ sym (any_turned (same_spots (pair_view c.args.pair)) (pairs_view c.args.self.now.pairs.items))
