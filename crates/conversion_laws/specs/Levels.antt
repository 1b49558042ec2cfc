-- What more levels leave as it is, where rows may merge: what a row merges, the tree, entries, notes and faults.
use Rattle.std.specs.Prelude.{◌≡◌, ℕ, ◌≤◌, List, [], ◌∷◌, map, Some, None}
use Rattle.schema_defs.specs.Location.{Location}
use Rattle.schema_defs.specs.Texts.{Relations}
use Rattle.schema_defs.specs.Schema.{Schema, Document}
use Rattle.entry_defs.specs.Entry.{any_entry}
use Rattle.convert_defs.specs.Row.{Part}
use Rattle.merge_defs.specs.Outcome.{Outcome, fault, never, answer, depth, unsupported}
use Rattle.walk_laws.specs.Levels.{StaysWithMore}
use Rattle.convert_walks.specs.Spot.{Spot}
use Rattle.convert_walks.specs.Merging.{merged_at}
use Rattle.convert_walks.specs.Tree.{State, too_few_levels, too_many_steps, converted, Node, entry_at, tree_at, table_of, document_tree}
use Rattle.convert_walks.specs.Told.{Reason, by_row, by_merge, too_deep, by_levels, notes_of, faults_of}
use Rattle.merging_laws.specs.Conversion.{AllNodes}

-- what a row merges with m levels it merges with n, unless there were too few
abbrev pub RowsStay : Type 0
RowsStay = (d : Document) (most m n : ℕ) → m ≤ n → (o : Spot) (s : Schema) (ps : List Part) → StaysWithMore (merged_at d most m o s ps) (merged_at d most n o s ps)

-- ---- one tree

abbrev pub HasOutcome : Outcome Schema → Type 0
HasOutcome (fault (depth [])) = ⊥
HasOutcome (fault (depth (l ∷ w))) = Unit {0}
HasOutcome (fault (unsupported u)) = Unit {0}
HasOutcome (never ns) = Unit {0}
HasOutcome (answer ns s) = Unit {0}

-- there were levels enough, also for the merge of its row
abbrev pub HasLevels : State → Type 0
HasLevels too_few_levels = ⊥
HasLevels too_many_steps = Unit {0}
HasLevels (converted None) = Unit {0}
HasLevels (converted (Some o)) = HasOutcome o

-- and no more steps than are allowed
abbrev pub IsConverted : State → Type 0
IsConverted too_few_levels = ⊥
IsConverted too_many_steps = ⊥
IsConverted (converted None) = Unit {0}
IsConverted (converted (Some o)) = HasOutcome o

-- a node but for its entry
abbrev pub unentered : Node → Node
unentered t = record t { entry = any_entry }

-- where levels are enough, more of them leave each node but its entry
abbrev pub TreesStay : Type 0
TreesStay = (r : Relations) (d : Document) (most m n : ℕ) → m ≤ n → (o : Spot) (s : Schema)
    → AllNodes (λ t. HasLevels t.state) (tree_at r d most m o s) → map unentered (tree_at r d most n o s) ≡ map unentered (tree_at r d most m o s)

-- where no walk has too many steps either, they leave the entries too: the entry of a schema goes on past such a walk as far as levels allow
abbrev pub EntriesStay : Type 0
EntriesStay = (r : Relations) (d : Document) (most m n : ℕ) → m ≤ n → (o : Spot) (s : Schema)
    → AllNodes (λ t. IsConverted t.state) (tree_at r d most m o s) → (entry_at r d most n o s ≡ entry_at r d most m o s) × (tree_at r d most n o s ≡ tree_at r d most m o s)

-- ---- a document

abbrev pub IsOther : Reason → Type 0
IsOther (by_row c) = Unit {0}
IsOther (by_merge u) = Unit {0}
IsOther (too_deep w) = Unit {0}
IsOther by_levels = ⊥

-- no fault is of too few levels
abbrev pub NoneByLevels : List (Location × Reason) → Type 0
NoneByLevels [] = Unit {0}
NoneByLevels (f ∷ fs) = IsOther f.1 × NoneByLevels fs

pub record ToldAlike (r : Relations) (d : Document) (most m n : ℕ) : Type 0 where
  pub notes : notes_of r d most n ≡ notes_of r d most m
  pub faults : faults_of r d most n ≡ faults_of r d most m

-- notes and faults stay
abbrev pub ToldStays : Type 0
ToldStays = (r : Relations) (d : Document) (most m n : ℕ) → m ≤ n → NoneByLevels (faults_of r d most m) → ToldAlike r d most m n

pub record ConvertedAlike (r : Relations) (d : Document) (most m n : ℕ) : Type 0 where
  pub tree : document_tree r d most n ≡ document_tree r d most m
  pub table : table_of r d most n ≡ table_of r d most m
  pub told : ToldAlike r d most m n

-- a document that is converted without faults is converted to the same
abbrev pub DocumentsStay : Type 0
DocumentsStay = (r : Relations) (d : Document) (most m n : ℕ) → m ≤ n → faults_of r d most m ≡ [] → ConvertedAlike r d most m n
