-- A measure for walks through trees and references: references count most, and the trees of the table are as large as they are.
use Rattle.std.proofs.Common.{◌≡◌, ℕ, zero, suc, ◌+◌, ◌*◌, ◌-◌, ◌<◌, ◌≤◌, List, [], ◌∷◌, refl, sym, ap, subst, ◌∙◌, rules, arith}
use Rattle.tree_types.specs.declared.tree.Target.{Target}
use Rattle.tree_types.specs.declared.tree.Atom.{Atom}
use Rattle.tree_types.specs.declared.tree.Tree.{Tree, the_lemmas}
use Rattle.tree_types.specs.declared.tree.Tree.TheVariants as trees
use Rattle.tree_types.specs.declared.tree.TreeTable.{TreeTable}
use Rattle.tree_types.proofs.Sizes.{tree_size}

abbrev pub targets_size : List (Target × Tree) → ℕ
targets_size [] = 0
targets_size (p ∷ ps) = tree_size p.1 + targets_size ps

abbrev pub rank : TreeTable → ℕ → ℕ → ℕ
rank x left size = left * suc (targets_size x.targets.items) + size

-- on the same level
falls-by : (p size less u : ℕ) → p + size ≡ u → less < size → p + less < u
falls-by p size less u e h = omega (arith, h, e)

pub falls : (x : TreeTable) (left size less u : ℕ) → rank x left size ≡ u → less < size → rank x left less < u
falls x left size less u e h = falls-by (left * suc (targets_size x.targets.items)) size less u e h

-- one reference further, to a tree of the table
pub down : (x : TreeTable) (left size u : ℕ) → (left ≡ 0 → ⊥) → rank x left 0 ≡ u → size ≤ targets_size x.targets.items → rank x (left - 1) size < u
down x zero size u h e k = absurd (h refl)
down x (suc left) size u h e k =
    let one : suc left - 1 ≡ left = omega arith in
    let f : suc left * suc (targets_size x.targets.items) + 0 ≡ u = e in
    let d : left * suc (targets_size x.targets.items) + size < u = omega (arith, f, k) in
    subst (λ n. rank x n size < u) (sym one) d

-- a reference has a size
atom_sized : (a : Atom) → tree_size (trees.Atom a) ≡ 1
atom_sized a = search (rules, the_lemmas)

pub atom_falls : (x : Tree) (a : Atom) → x ≡ trees.Atom a → 0 < tree_size x
atom_falls x a e = let h = ap tree_size e ∙ atom_sized a in omega (arith, h)
