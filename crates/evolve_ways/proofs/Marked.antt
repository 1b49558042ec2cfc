-- A step between spots is one between their nodes.
use Rattle.std.proofs.Common.{◌≡◌, ℕ, zero, suc, List, [], ◌∷◌, slice_get, Some, refl, sym, ap, ◌∙◌, subst}
use Rattle.evolve_defs.specs.Forms.{Table}
use Rattle.evolve_defs.specs.Steps.{Pair, Verdict, fails, reaches, step}
use Rattle.evolve_defs.specs.Walk.{Turn, stops, goes, ArePairs, IsAskedAs}
use Rattle.evolve_defs.specs.Spots.{Spots, node_at, nodes_at, spots_turn}
use Rattle.evolve_ways.specs.Ways.{Told, marks_at, IsStep}
use Rattle.evolve_defs.proofs.Spots.{spots_asked}

module _ (at : Spots → Pair) where
  gone : (t : Turn Spots) (v : Verdict) (ls : List Spots) → IsAskedAs at t v → goes ls ≡ t → (ps : List Pair) × (v ≡ reaches ps) × ArePairs at ls ps
  gone (stops e) v ls h q = cc
  gone (goes ms) (fails f) ls h q = absurd h
  gone (goes ms) (reaches ps) ls h q = let z : ms ≡ ls = cc in (ps, refl, subst (λ y. ArePairs at y ps) z h)

  at_number : (ls : List Spots) (ps : List Pair) (k : ℕ) (q : Spots) → ArePairs at ls ps → slice_get ls k ≡ Some q → slice_get ps k ≡ Some (at q)
  at_number [] ps k q h e = cc
  at_number (l ∷ ls) [] k q h e = absurd h
  at_number (l ∷ ls) (p ∷ ps) zero q h e = let same : l ≡ q = cc in ap Some (sym h.0) ∙ ap (λ z. Some (at z)) same
  at_number (l ∷ ls) (p ∷ ps) (suc k) q h e = at_number ls ps k q h.1 e

pub stepped : (old new : Table) (p q : Spots) (ls : List Spots) (k : ℕ) (m : Told) → goes ls ≡ spots_turn old new p → slice_get ls k ≡ Some q
    → slice_get (marks_at old new (node_at old p.0) (node_at new p.1)) k ≡ Some m → IsStep old new (node_at old p.0) (node_at new p.1) m (node_at old q.0) (node_at new q.1)
stepped old new p q ls k m t e f =
    let g = gone (nodes_at old new) (spots_turn old new p) (step old new (node_at old p.0) (node_at new p.1)) ls (spots_asked old new p) t in
    record { number = k; pairs = g.0; reached = g.1; pair = at_number (nodes_at old new) ls g.0 k q g.2 e; mark = f }
