-- Where Depth by walks does not come, a merge by walks is the merge that counts steps, walks aside.
use Rattle.std.specs.Prelude.{◌≡◌, ℕ, List, Some}
use Rattle.schema_defs.specs.Schema.{Schema, Same, Schemas, Document}
use Rattle.schema_defs.specs.Admits.{target}
use Rattle.schema_defs.specs.Mapped.{mapped, mapped_same, mapped_all, unwalked}
use Rattle.merge_defs.specs.Outcome.{Outcome, fault, never, answer, depth, unsupported}
use Rattle.merge_defs.specs.Merge.{join, less, merge_all, with_subschemas}
use Rattle.merge_walks.specs.Walked.{join_by_walks, less_by_walks, merge_by_walks, with_by_walks}

-- the schemas of the document hold no walks, as none does that was read
abbrev pub HoldsNoWalks : Document → Type 0
HoldsNoWalks d = (q : List ℕ) (t : Schema) → target d q ≡ Some t → mapped unwalked t ≡ t

-- the first is Depth, or the second is the same but for walks, notes and all
abbrev pub Counts : Outcome Schema → Outcome Schema → Type 0
Counts (fault (depth w)) o = Unit {0}
Counts (fault (unsupported u)) o = o ≡ fault (unsupported u)
Counts (never ns) o = o ≡ never ns
Counts (answer ns s) o = o ≡ answer ns (mapped unwalked s)

-- n levels are n steps
pub record WalksCount (d : Document) (most n : ℕ) : Type 0 where
  pub joins : (a b : Schema) → Counts (join_by_walks d most n a b) (join d n (mapped unwalked a) (mapped unwalked b))
  pub leaves : (a b : Schema) → Counts (less_by_walks d most n a b) (less d n (mapped unwalked a) (mapped unwalked b))
  pub with_all : (b : Schema) (ss : Same) → Counts (with_by_walks d most n b ss) (with_subschemas d n (mapped unwalked b) (mapped_same unwalked ss))
  pub gathers : (ss : Schemas) → Counts (merge_by_walks d most n ss) (merge_all d n (mapped_all unwalked ss))

abbrev pub MergesByWalksCount : Type 0
MergesByWalksCount = (d : Document) → HoldsNoWalks d → (most n : ℕ) → WalksCount d most n
