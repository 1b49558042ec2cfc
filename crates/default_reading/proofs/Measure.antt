-- The work that is left: defaults that may still be read inside one another, the size of the value, references that may still be followed, and what the tree holds.
use Rattle.std.proofs.Common.{◌≡◌, ℕ, ◌≤◌, List, [], ◌∷◌, length, inl, inr, ap, arith}
use Rattle.tree_types.specs.declared.tree.Target.{Target}
use Rattle.tree_types.specs.declared.tree.Tree.{Tree}
use Rattle.tree_types.specs.declared.tree.TreeTable.{TreeTable}
use Rattle.listed_reading.specs.Targets.{Among}
use Rattle.default_reading.proofs.Order.{most, most-first, most-second, pack}
use Rattle.default_reading.proofs.Weights.{tree_weight, targets_weight}

abbrev pub work : TreeTable → ℕ → ℕ → ℕ → ℕ → ℕ
work x k v y z = pack (targets_weight x.targets.items) (length x.targets.items) k v y z

-- where all references are allowed
abbrev pub anew : TreeTable → ℕ → ℕ → ℕ → ℕ
anew x k v z = work x k v (length x.targets.items) z

among_weighed : (x : Tree) (ps : List (Target × Tree)) → Among x ps → tree_weight x ≤ targets_weight ps
among_weighed x [] h = absurd h
among_weighed x (p ∷ ps) (inl e) = let s : tree_weight p.1 ≡ tree_weight x = ap tree_weight e in omega (arith, s)
among_weighed x (p ∷ ps) (inr h) = let k = among_weighed x ps h in omega (arith, k)

-- what a reference leads to
pub led_fits : (x : Tree) (ps : List (Target × Tree)) (z : ℕ) → Among x ps → tree_weight x ≤ most z (targets_weight ps)
led_fits x ps z h = let a = among_weighed x ps h in let b = most-second z (targets_weight ps) in omega (arith, a, b)

-- what is no more than what is at hand
pub fits : (ps : List (Target × Tree)) (z y : ℕ) → y ≤ z → y ≤ most z (targets_weight ps)
fits ps z y h = let a = most-first z (targets_weight ps) in omega (arith, h, a)
