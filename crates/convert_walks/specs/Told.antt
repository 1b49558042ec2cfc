-- The notes and faults of a document, those of its merges included, each at its place.
use Rattle.std.specs.Prelude.{ℕ, ◌&&◌, ◌||◌, nat_eq, nat_lt, List, [], ◌∷◌, ◌++◌, map, Bool, Option, Some, None, if◌then◌else◌}
use Rattle.schema_defs.specs.Location.{Location}
use Rattle.schema_defs.specs.Texts.{Relations}
use Rattle.schema_defs.specs.Schema.{Schema, Document}
use Rattle.convert_defs.specs.Row as row
use Rattle.convert_defs.specs.Row.{Way, narrowed, widened, NoteKind, integer_note, names_note, Cause}
use Rattle.convert_defs.specs.Order.{kind_number, way_number, place_before, same_place}
use Rattle.convert_defs.specs.Table.{finding_of, notes_at}
use Rattle.convert_defs.specs.Faults.{finding_faults}
use Rattle.merge_defs.specs.Outcome as merge
use Rattle.merge_defs.specs.Outcome.{Kind, of_integer, of_names, of_reference, of_formats, of_clash, of_members, of_subtract, of_absent, Unsupported, Outcome, fault, never, answer, depth, unsupported}
use Rattle.merge_walks.specs.Carried.{Walk, last_of}
use Rattle.convert_walks.specs.Spot.{Spot, Branches, branch_at, path_inside}
use Rattle.convert_walks.specs.Tree.{State, too_few_levels, too_many_steps, converted, Node, document_tree}

-- ---- notes

-- of a row, or of a merge alone
pub data NoteName : Type 0 where
  row_note : NoteKind → NoteName
  reference_note : NoteName
  formats_note : NoteName
  clash_note : NoteName
  members_note : NoteName
  subtract_note : NoteName
  absent_note : NoteName

pub record Note : Type 0 where
  pub way : Way
  pub name : NoteName
  pub place : Location

abbrev pub name_of : Kind → NoteName
name_of of_integer = row_note integer_note
name_of of_names = row_note names_note
name_of of_reference = reference_note
name_of of_formats = formats_note
name_of of_clash = clash_note
name_of of_members = members_note
name_of of_subtract = subtract_note
name_of of_absent = absent_note

abbrev pub way_of : merge.Way → Way
way_of merge.narrowed = narrowed
way_of merge.widened = widened

abbrev pub note_number : NoteName → ℕ
note_number (row_note k) = kind_number k
note_number reference_note = 16
note_number formats_note = 17
note_number clash_note = 18
note_number members_note = 19
note_number subtract_note = 20
note_number absent_note = 21

-- at the schema, or at one of its branches
abbrev pub note_path : Spot → Branches → Location → Location
note_path o ms [] = o.path
note_path o ms (k ∷ ks) = path_inside o (k ∷ ks) (branch_at (k ∷ ks) ms)

abbrev pub placed_note : Spot → Branches → row.Note → Note
placed_note o ms n = record { way = n.way; name = row_note n.kind; place = note_path o ms n.place }

abbrev pub merge_note : Spot → merge.Note → Note
merge_note o n = record { way = way_of n.way; name = name_of n.kind; place = o.path }

-- by path, then by kind, then narrowed before widened; each once
abbrev pub same_note : Note → Note → Bool
same_note a b = same_place a.place b.place && (nat_eq (note_number a.name) (note_number b.name) && nat_eq (way_number a.way) (way_number b.way))

abbrev pub comes_before : Note → Note → Bool
comes_before a b =
    place_before a.place b.place
    || (same_place a.place b.place && (nat_lt (note_number a.name) (note_number b.name) || (nat_eq (note_number a.name) (note_number b.name) && nat_lt (way_number a.way) (way_number b.way))))

abbrev pub inserted : Note → List Note → List Note
inserted n [] = n ∷ []
inserted n (m ∷ ms) = if same_note n m then m ∷ ms else if comes_before n m then n ∷ m ∷ ms else m ∷ inserted n ms

abbrev pub ordered : List Note → List Note
ordered [] = []
ordered (n ∷ ns) = inserted n (ordered ns)

-- ---- faults

-- why a schema is not converted: its row, what merges don't support, or its walk
pub data Reason : Type 0 where
  by_row : Cause → Reason
  by_merge : Unsupported → Reason
  too_deep : Walk → Reason
  by_levels : Reason

module _ (r : Relations) (d : Document) (most n : ℕ) where
  abbrev pub outcome_notes : Spot → Option (Outcome Schema) → List Note
  outcome_notes o None = []
  outcome_notes o (Some (fault f)) = []
  outcome_notes o (Some (never ns)) = map (merge_note o) ns
  outcome_notes o (Some (answer ns s)) = map (merge_note o) ns

  abbrev pub state_notes : Spot → Schema → State → List Note
  state_notes o s too_few_levels = []
  state_notes o s too_many_steps = []
  state_notes o s (converted m) = map (placed_note o (finding_of r d s).branches) (notes_at r d s) ++ outcome_notes o m

  abbrev pub notes_in : List Node → List Note
  notes_in [] = []
  notes_in (t ∷ ts) = state_notes t.spot t.schema t.state ++ notes_in ts

  abbrev pub notes_of : List Note
  notes_of = ordered (notes_in (document_tree r d most n))

  -- that of a row stands at the schema, as what merges don't support; that of a walk at its last location
  abbrev pub merge_faults : Spot → Outcome Schema → List (Location × Reason)
  merge_faults o (fault (depth [])) = (o.path, by_levels) ∷ []
  merge_faults o (fault (depth (l ∷ w))) = (last_of (l ∷ w), too_deep (l ∷ w)) ∷ []
  merge_faults o (fault (unsupported u)) = (o.path, by_merge u) ∷ []
  merge_faults o _ = []

  -- patterns are asked, and places counted, where nothing is merged
  abbrev pub state_faults : Spot → Schema → State → List (Location × Reason)
  state_faults o s too_few_levels = (o.path, by_levels) ∷ []
  state_faults o s too_many_steps = (last_of o.walk, too_deep o.walk) ∷ []
  state_faults o s (converted None) = map (λ c. (o.path, by_row c)) (finding_faults r d most (finding_of r d s))
  state_faults o s (converted (Some m)) = merge_faults o m

  abbrev pub faults_in : List Node → List (Location × Reason)
  faults_in [] = []
  faults_in (t ∷ ts) = state_faults t.spot t.schema t.state ++ faults_in ts

  abbrev pub faults_of : List (Location × Reason)
  faults_of = faults_in (document_tree r d most n)
