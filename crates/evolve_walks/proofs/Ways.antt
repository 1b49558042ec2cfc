-- The way back from a pair to the first that was entered.
use Rattle.std.proofs.Common.{Bor, ◌≡◌, ℕ, zero, suc, List, [], ◌∷◌, ◌++◌, length, map, reverse, Bool, true, Some, None, slice_get, refl, sym, ap, subst, ◌∙◌}
use Rattle.std.specs.Slice.{IsItemAt}
use Rattle.std.proofs.lemmas.List.{reverse-append}
use Rattle.std.proofs.lemmas.Option.{slice_get_read}
use Rattle.evolve_defs.specs.Forms.{Table}
use Rattle.evolve_defs.specs.Spots.{Spots, node_at, spots_turn}
use Rattle.evolve_defs.specs.Walk.{goes}
use Rattle.evolve_ways.specs.Ways as ways
use Rattle.evolve_ways.specs.Ways.{Told, marks_at, there, inside, onward}
use Rattle.evolve_ways.proofs.Marked.{stepped}
use Rattle.evolve_rows.specs.MarksView.{mark_view, step_view, steps_view}
use Rattle.evolve_rows.specs.TurnView.{pair_view, pairs_view}
use Rattle.evolve_rows.specs.declared.mark.Mark.{Mark}
use Rattle.evolve_rows.specs.declared.mark.Step.{Step}
use Rattle.evolve_rows.specs.declared.turn.Pair.{Pair}
use Rattle.evolve_walks.specs.Same.{same_spots}
use Rattle.evolve_walks.specs.Way.{Begun, IsStepAt, IsTrail, IsWay, along, marks_view}
use Rattle.evolve_walks.proofs.Sound.{spots_are}

-- ---- numbers

mapped_get : {X Y : Type 0} (f : X → Y) (xs : List X) (k : ℕ) (x : X) → slice_get xs k ≡ Some x → slice_get (map f xs) k ≡ Some (f x)
mapped_get f [] k x h = cc
mapped_get f (y ∷ xs) zero x h = let same : y ≡ x = cc in ap (λ z. Some (f z)) same
mapped_get f (y ∷ xs) (suc k) x h = mapped_get f xs k x h

pub same_at : (ps : List Pair) (k : ℕ) (x : Bor Pair) (q : Spots) → IsItemAt ps k (Some x) → same_spots (pair_view x.now) q ≡ true → slice_get (pairs_view ps) k ≡ Some q
same_at ps k x q h e = mapped_get pair_view ps k x.now (slice_get_read ps (length ps) k x.now refl h.3.0 h.1) ∙ ap Some (spots_are (pair_view x.now) q e)

module _ (old new : Table) where
  pub step_told : (p q : Spots) (ps : List Pair) (k : ℕ) (ss : List Step) (x : Bor Step) → goes (pairs_view ps) ≡ spots_turn old new p → slice_get (pairs_view ps) k ≡ Some q → IsItemAt ss k (Some x)
      → steps_view ss ≡ marks_at old new (node_at old p.0) (node_at new p.1) → IsStepAt old new p (step_view x.now) q
  unfolding IsStepAt
  step_told p q ps k ss x t e h m =
      stepped old new p q (pairs_view ps) k (step_view x.now) t e (ap (λ ms. slice_get ms k) (sym m) ∙ mapped_get step_view ss k x.now (slice_get_read ss (length ss) k x.now refl h.3.0 h.1))

  -- ---- trails

  pub begun : (p : Spots) → IsWay old new p p []
  unfolding IsWay
  begun p = there

  way_longer : (to p q : Spots) (m : Told) (ms : List ways.Mark) → IsStepAt old new p m q → IsWay old new q to ms → IsWay old new p to (along m ms)
  unfolding IsStepAt IsWay
  way_longer to p q None ms s w = inside (node_at old p.0) (node_at new p.1) (node_at old q.0) (node_at new q.1) ms s w
  way_longer to p q (Some m) ms s w = onward (node_at old p.0) (node_at new p.1) (node_at old q.0) (node_at new q.1) m ms s w

  pub trail_longer : (to p : Spots) (m : Told) (before after : Begun) → IsStepAt old new p m before.0 → after ≡ (p, along m before.1) → IsTrail old new to before → IsTrail old new to after
  trail_longer to p m before after s e w = subst (IsTrail old new to) (sym e) (way_longer to p before.0 m before.1 s w)

  pub way_begins : (start at to : Spots) (ms : List ways.Mark) (b : Bool) → b ≡ same_spots at start → b ≡ true → IsWay old new at to ms → IsWay old new start to ms
  way_begins start at to ms b e t w = subst (λ p. IsWay old new p to ms) (spots_are at start (sym e ∙ t)) w

pub one_mark : (ms : List Mark) (m : Mark) → marks_view (reverse (ms ++ m ∷ [])) ≡ mark_view m ∷ marks_view (reverse ms)
one_mark ms m = ap marks_view (reverse-append ms (m ∷ []))
