-- Walks through a document, and whether it is guarded.
use Rattle.std.specs.Prelude.{◌≡◌, ◌&&◌, ◌||◌, nat_le, ℕ, List, [], ◌∷◌, ◌++◌, Bool, false, Some, None, IsSome, is_some, IsTrue, ◌⊎◌, Contains}
use Rattle.schema_defs.specs.Location.{Location}
use Rattle.schema_defs.specs.Schema.{Schema, boolean, object, Same, no_same, same_value, Document}
use Rattle.schema_defs.specs.Admits.{target_location}
use Rattle.schema_defs.specs.Children.{Child, children, same_children, reference_of, schema_at}
use Rattle.schema_defs.specs.Counts.{least_constraints, is_list, is_schema}

-- ---- walks

abbrev pub has_all_of_or_not : Same → Bool
has_all_of_or_not no_same = false
has_all_of_or_not (same_value all any one none conditional) = is_list all || is_schema none

abbrev pub has_any_or_one_of : Same → Bool
has_any_or_one_of no_same = false
has_any_or_one_of (same_value all any one none conditional) = is_list any || is_list one

-- allOf or not stands, or $ref, anyOf or oneOf beside another constraint
abbrev pub merges : Schema → Bool
merges (boolean b) = false
merges (object p ss ls ns) =
    has_all_of_or_not ss || ((is_some p.reference || has_any_or_one_of ss) && nat_le 2 (least_constraints (object p ss ls ns)))

abbrev pub merges_at : Document → Location → Bool
merges_at d l = elim (schema_at d l) [ Some s ↦ merges s | None ↦ false ]

-- m is a direct subschema of what stands at l
abbrev pub IsChild : Document → Location → Location → Type 0
IsChild d l m = (s : Schema) × (c : Child) × (schema_at d l ≡ Some s) × Contains (children s) c × (m ≡ l ++ c.0)

-- m is the target of the reference that stands at l
abbrev pub IsTarget : Document → Location → Location → Type 0
IsTarget d l m = (s : Schema) × (q : List ℕ) × (schema_at d l ≡ Some s) × (reference_of s ≡ Some q) × (target_location d q ≡ Some m)

-- the rest of a walk that is at l, where `merged` says whether an earlier location merges
abbrev pub IsWalkFrom : Document → Bool → Location → List Location → Type 0
IsWalkFrom d merged l [] = IsSome (schema_at d l)
IsWalkFrom d merged l (m ∷ ms) =
    (IsChild d l m ⊎ (IsTrue (merged || merges_at d l) × IsTarget d l m)) × IsWalkFrom d (merged || merges_at d l) m ms

-- each location is a child of the one before, or the target of its reference where some location so far merges
abbrev pub IsWalk : Document → List Location → Type 0
IsWalk d [] = ⊥
IsWalk d (l ∷ ls) = IsWalkFrom d false l ls

-- ---- guarded documents

-- one step that stays at the same value
pub data Goes (d : Document) : Location → Location → Type 0 where
  to_child : (l : Location) (s : Schema) (c : Child) → schema_at d l ≡ Some s → Contains (same_children s) c → Goes d l (l ++ c.0)
  to_target : (l m : Location) (s : Schema) (q : List ℕ) → schema_at d l ≡ Some s → reference_of s ≡ Some q → target_location d q ≡ Some m → Goes d l m

-- one or more such steps
pub data Leads (d : Document) : Location → Location → Type 0 where
  one_step : (l m : Location) → Goes d l m → Leads d l m
  more_steps : (l m n : Location) → Goes d l m → Leads d m n → Leads d l n

-- no walk of same-value children and references returns to a location
abbrev pub IsGuarded : Document → Type 0
IsGuarded d = (l : Location) → ¬ (Leads d l l)

-- each location goes to the next, and the last of them is `back`
abbrev pub GoesRound : Document → Location → Location → List Location → Type 0
GoesRound d back l [] = ⊥
GoesRound d back l (m ∷ []) = Goes d l m × (m ≡ back)
GoesRound d back l (m ∷ n ∷ ls) = Goes d l m × GoesRound d back m (n ∷ ls)

-- a walk at one value, of one step or more, that returns to its first location
abbrev pub IsLoop : Document → List Location → Type 0
IsLoop d [] = ⊥
IsLoop d (l ∷ ls) = GoesRound d l l ls
