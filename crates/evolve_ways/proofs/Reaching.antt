-- What a way leads to is reached.
use Rattle.std.proofs.Common.{◌≡◌, ℕ, zero, suc, List, [], ◌∷◌, slice_get, Some, None, subst}
use Rattle.evolve_defs.specs.Forms.{Table, Node}
use Rattle.evolve_defs.specs.Steps.{Pair}
use Rattle.evolve_defs.specs.Covers.{Reached, roots, further, IsAmong, first, later}
use Rattle.evolve_ways.specs.Ways.{Mark, Told, IsStep, Leads, there, inside, onward, WhatIsLedToIsReached}

-- a pair at a number is one of them
among : (ps : List Pair) (k : ℕ) (p : Pair) → slice_get ps k ≡ Some p → IsAmong p ps
among [] k p h = cc
among (q ∷ ps) zero p h = let same : q ≡ p = cc in subst (λ z. IsAmong z (q ∷ ps)) same (first ps)
among (q ∷ ps) (suc k) p h = later q ps (among ps k p h)

module _ (old new : Table) (a b c d : Node) where
  by_step : (x y u v : Node) (m : Told) → IsStep old new x y m u v → Reached old new a b x y → Reached old new a b u v
  by_step x y u v m s r = further x y u v s.pairs r s.reached (among s.pairs s.number (u, v) s.pair)

  by_way : (x y : Node) (ms : List Mark) → Leads old new c d x y ms → Reached old new a b x y → Reached old new a b c d
  by_way _ _ _ there r = r
  by_way _ _ _ (inside x y u v ms s l) r = by_way u v ms l (by_step x y u v None s r)
  by_way _ _ _ (onward x y u v m ms s l) r = by_way u v ms l (by_step x y u v (Some m) s r)

pub led_reached : WhatIsLedToIsReached
led_reached old new a b c d ms l = by_way old new a b c d a b ms l roots
