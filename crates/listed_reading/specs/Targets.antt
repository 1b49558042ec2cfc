-- The trees that references lead to.
use Rattle.std.specs.Prelude.{◌≡◌, ◌⊎◌, List, [], ◌∷◌}
use Rattle.tree_types.specs.declared.tree.Target.{Target}
use Rattle.tree_types.specs.declared.tree.Tree.{Tree}

-- it is the tree of one of these
abbrev pub Among : Tree → List (Target × Tree) → Type 0
Among x [] = ⊥
Among x (p ∷ ps) = (p.1 ≡ x) ⊎ Among x ps
