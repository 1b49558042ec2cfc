-- What more steps leave as it is.
use Rattle.std.specs.Prelude.{◌≡◌, ℕ, ◌≤◌}
use Rattle.schema_defs.specs.Schema.{Schema, Same, Schemas, Document}
use Rattle.merge_defs.specs.Outcome.{Outcome, fault, never, answer, depth, unsupported}
use Rattle.merge_defs.specs.Merge.{join, less, with_subschemas, merge_all}

-- the first is Depth, or both are the same: answer, never with its notes, or unsupported
abbrev pub Stays : {A : Type 0} → Outcome A → Outcome A → Type 0
Stays (fault (depth w)) o = Unit {0}
Stays (fault (unsupported u)) o = o ≡ fault (unsupported u)
Stays (never ns) o = o ≡ never ns
Stays (answer ns a) o = o ≡ answer ns a

-- with n steps instead of m
pub record StayAt (d : Document) (m n : ℕ) : Type 0 where
  pub joins : (a b : Schema) → Stays (join d m a b) (join d n a b)
  pub leaves : (a b : Schema) → Stays (less d m a b) (less d n a b)
  pub with_all : (b : Schema) (ss : Same) → Stays (with_subschemas d m b ss) (with_subschemas d n b ss)
  pub gathers : (ss : Schemas) → Stays (merge_all d m ss) (merge_all d n ss)

-- what is not Depth stays as it is where more steps may be taken, in every document
abbrev pub MoreStepsStay : Type 0
MoreStepsStay = (d : Document) (m n : ℕ) → m ≤ n → StayAt d m n
