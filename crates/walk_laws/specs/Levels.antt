-- When Depth comes of merges by walks, and what more levels leave as it is.
use Rattle.std.specs.Prelude.{◌≡◌, ℕ, ◌≤◌, [], ◌∷◌, true, false}
use Rattle.schema_defs.specs.Schema.{Schema, Same, Schemas, Document}
use Rattle.merge_defs.specs.Outcome.{Outcome, fault, never, answer, depth, unsupported}
use Rattle.merge_walks.specs.Carried.{has_more_steps}
use Rattle.merge_walks.specs.Walked.{walk_of, join_by_walks, less_by_walks, merge_by_walks, with_by_walks}

-- there were too few levels, or both are the same: answer, never with its notes, unsupported, or Depth with its walk
abbrev pub StaysWithMore : Outcome Schema → Outcome Schema → Type 0
StaysWithMore (fault (depth [])) o = Unit {0}
StaysWithMore (fault (depth (l ∷ w))) o = o ≡ fault (depth (l ∷ w))
StaysWithMore (fault (unsupported u)) o = o ≡ fault (unsupported u)
StaysWithMore (never ns) o = o ≡ never ns
StaysWithMore (answer ns s) o = o ≡ answer ns s

-- with n levels instead of m
pub record StayWithMore (d : Document) (most m n : ℕ) : Type 0 where
  pub joins : (a b : Schema) → StaysWithMore (join_by_walks d most m a b) (join_by_walks d most n a b)
  pub leaves : (a b : Schema) → StaysWithMore (less_by_walks d most m a b) (less_by_walks d most n a b)
  pub with_all : (b : Schema) (ss : Same) → StaysWithMore (with_by_walks d most m b ss) (with_by_walks d most n b ss)
  pub gathers : (ss : Schemas) → StaysWithMore (merge_by_walks d most m ss) (merge_by_walks d most n ss)

-- what does not come of too few levels stays as it is with more levels
abbrev pub MoreLevelsStay : Type 0
MoreLevelsStay = (d : Document) (most m n : ℕ) → m ≤ n → StayWithMore d most m n

-- a side that has more steps than are allowed is refused with its walk, the left one first
pub record DeepSides (d : Document) (most n : ℕ) (a b : Schema) : Type 0 where
  pub left : has_more_steps most (walk_of a) ≡ true → (join_by_walks d most n a b ≡ fault (depth (walk_of a))) × (less_by_walks d most n a b ≡ fault (depth (walk_of a)))
  pub right : has_more_steps most (walk_of a) ≡ false → has_more_steps most (walk_of b) ≡ true
      → (join_by_walks d most n a b ≡ fault (depth (walk_of b))) × (less_by_walks d most n a b ≡ fault (depth (walk_of b)))

abbrev pub DeepSidesAreRefused : Type 0
DeepSidesAreRefused = (d : Document) (most n : ℕ) (a b : Schema) → DeepSides d most n a b

-- Depth that has a walk has one with more steps than are allowed
abbrev pub DepthIsDeep : ℕ → Outcome Schema → Type 0
DepthIsDeep most (fault (depth [])) = Unit {0}
DepthIsDeep most (fault (depth (l ∷ w))) = has_more_steps most (l ∷ w) ≡ true
DepthIsDeep most _ = Unit {0}

pub record DeepWalks (d : Document) (most n : ℕ) : Type 0 where
  pub joins : (a b : Schema) → DepthIsDeep most (join_by_walks d most n a b)
  pub leaves : (a b : Schema) → DepthIsDeep most (less_by_walks d most n a b)
  pub with_all : (b : Schema) (ss : Same) → DepthIsDeep most (with_by_walks d most n b ss)
  pub gathers : (ss : Schemas) → DepthIsDeep most (merge_by_walks d most n ss)

abbrev pub DepthHasItsWalk : Type 0
DepthHasItsWalk = (d : Document) (most n : ℕ) → DeepWalks d most n
