-- How many fields count, and which one where one alone does.
use Rattle.std.specs.Prelude.{ℕ, zero, suc, ◌+◌, List, [], ◌∷◌, true, cond}
use Rattle.token_trees.specs.declared.token.Span.{Span}
use Rattle.attr_parts.specs.declared.derive.Derive.{Derive}
use Rattle.attr_parts.specs.Diagnostics.{DiagnosticD, transparent_many}
use Rattle.container_defs.specs.Checks.{told_if, counts, none_counts, mark_if}
use Rattle.container_defs.specs.Container.{ReadField}
use Rattle.derive_ast.specs.declared.checks.transparent.Count.{Count}
use Rattle.derive_ast.specs.declared.checks.transparent.Count.TheVariants.{None as NoField, One, Many}

-- with one more, which stands there
abbrev pub count_with : ℕ → Count → Count
count_with i NoField = One i
count_with i (One n) = Many
count_with i Many = Many

-- with one more in front of all
abbrev pub first_counts : Count → Count
first_counts NoField = One 0
first_counts (One n) = Many
first_counts Many = Many

-- behind one that doesn't count
abbrev pub behind_first : Count → Count
behind_first NoField = NoField
behind_first (One n) = One (suc n)
behind_first Many = Many

abbrev pub count_of : Derive → List ReadField → Count
count_of derive [] = NoField
count_of derive (f ∷ fs) = cond (counts derive f) (first_counts (count_of derive fs)) (behind_first (count_of derive fs))

-- of some that were counted, and of those from a place on
abbrev pub counted : Count → ℕ → Count → Count
counted k i NoField = k
counted k i (One n) = count_with (i + n) k
counted k i Many = Many

-- what is told of the count
abbrev pub count_told : Derive → Count → Span → List DiagnosticD
count_told derive NoField at = told_if true (none_counts derive) at
count_told derive (One n) at = []
count_told derive Many at = told_if true transparent_many at

abbrev pub mark_nth : ℕ → List ReadField → List ReadField
mark_nth n [] = []
mark_nth zero (f ∷ fs) = mark_if true f ∷ fs
mark_nth (suc n) (f ∷ fs) = f ∷ mark_nth n fs

-- what the count leaves of the fields
abbrev pub mark_by : Count → List ReadField → List ReadField
mark_by NoField fs = fs
mark_by (One n) fs = mark_nth n fs
mark_by Many fs = fs
