-- Ways down the schemas that judge the same value, to one that has a reference.
use Rattle.std.specs.Prelude.{◌≡◌, ℕ, List, [], ◌∷◌, reverse, Bool, false, Option, Some, None, Contains, ◌==◌}
use Rattle.schema_defs.specs.Location.{Location}
use Rattle.schema_defs.specs.Schema.{Schema}
use Rattle.schema_defs.specs.Children.{Child, reference_of, same_children}
use Rattle.schema_defs.specs.References.{same_references}
use Rattle.schema_loops.specs.Named.{number_of_name, number_by}
use Rattle.schema_loops.specs.declared.numbers.Numbers.{Numbers}

-- the number of a reference's target
abbrev pub numbered : Numbers → List ℕ → ℕ
numbered m q = number_by (number_of_name m.by_name) m.count q

abbrev pub has_number : (List ℕ → ℕ) → ℕ → Option (List ℕ) → Bool
has_number f n None = false
has_number f n (Some q) = f q == n

-- by these steps, each to a child, one comes from the schema to one whose reference is q
abbrev pub IsWay : List ℕ → List Location → Schema → Type 0
IsWay q [] s = reference_of s ≡ Some q
IsWay q (k ∷ ks) s = (c : Child) × Contains (same_children s) c × (c.0 ≡ k) × IsWay q ks c.1

-- by these steps, of which the last stands first, one comes to a reference with the number
abbrev pub HasWay : (List ℕ → ℕ) → ℕ → Schema → List Location → Type 0
HasWay f n s ks = (q : List ℕ) × (f q ≡ n) × IsWay q (reverse ks) s

-- no reference of the schema at one value has the number
abbrev pub LacksNumber : (List ℕ → ℕ) → ℕ → Schema → Type 0
LacksNumber f n s = (q : List ℕ) → Contains (same_references s) q → f q ≡ n → ⊥
