-- How many steps the walk has that a call of merging is refused for, and that it is one of the document.
use Rattle.std.specs.Prelude.{◌≡◌, ◌≤◌, ℕ, suc, ◌∷◌, Some, None, length}
use Rattle.schema_defs.specs.Location.{Location}
use Rattle.schema_defs.specs.Schema.{Schema, Same, Schemas, Document}
use Rattle.schema_defs.specs.Walks.{IsWalk, IsGuarded}
use Rattle.merge_walks.specs.Carried.{Walk}
use Rattle.merge_walks.specs.Told.{Told, refused, too_deep}
use Rattle.merge_walks.specs.Walked.{walk_of}
use Rattle.schema_merge.specs.Ordered.{merge_all_told, with_subschemas_told, subtract_told}
use Rattle.depth_laws.specs.Steps.{AreShort, AllShort, SameShort, TargetsAreShort}
use Rattle.depth_laws.specs.Leading.{IsMergingWalk, AreLedTo, LedToSame, LedToAll, TargetsAreBare}

-- one more than are allowed; nothing is said of an empty walk, which tells of too few levels
abbrev pub RefusesOneStepMore : ℕ → Told → Type 0
RefusesOneStepMore most t = (l : Location) (w : Walk) → t ≡ refused (too_deep (l ∷ w)) → length (l ∷ w) ≡ suc (suc most)

-- where the walks of what is handed in have at most one step more, and that of a body none
pub record CallsRefuse (d : Document) (most n : ℕ) : Type 0 where
  pub all : (ss : Schemas) → AllShort most ss → RefusesOneStepMore most (merge_all_told d most n ss)
  pub body : (b : Schema) (ss : Same) → AreShort most b → length (walk_of b) ≤ suc most → SameShort most ss → RefusesOneStepMore most (with_subschemas_told d most n b ss)
  pub left : (a b : Schema) → AreShort most a → AreShort most b → RefusesOneStepMore most (subtract_told d most n a b)

abbrev pub RefusedCallsAreOneStepMore : Type 0
RefusedCallsAreOneStepMore = (d : Document) (most n : ℕ) → TargetsAreShort d most → CallsRefuse d most n

-- a walk of the document
abbrev pub RefusesAWalk : Document → Told → Type 0
RefusesAWalk d t = (l : Location) (w : Walk) → t ≡ refused (too_deep (l ∷ w)) → IsWalk d (l ∷ w)

-- where walks of the document lead to what is handed in
pub record CallsLead (d : Document) (most n : ℕ) : Type 0 where
  pub all : (ss : Schemas) → LedToAll d (IsMergingWalk d) (λ i. None) ss → RefusesAWalk d (merge_all_told d most n ss)
  pub body : (b : Schema) (ss : Same) → AreLedTo d (IsMergingWalk d) None b → IsMergingWalk d (walk_of b) → LedToSame d (IsMergingWalk d) (Some (walk_of b)) ss → RefusesAWalk d (with_subschemas_told d most n b ss)
  pub left : (a b : Schema) → AreLedTo d (IsMergingWalk d) None a → AreLedTo d (IsMergingWalk d) None b → RefusesAWalk d (subtract_told d most n a b)

abbrev pub RefusedCallsLeadOn : Type 0
RefusedCallsLeadOn = (d : Document) → IsGuarded d → TargetsAreBare d → (most n : ℕ) → CallsLead d most n
