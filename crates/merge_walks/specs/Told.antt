-- What a merge call answers: a schema or never, with notes that have places; or a refusal.
use Rattle.std.specs.Prelude.{ℕ, map, List, [], Option, Some, None, option_map}
use Rattle.schema_defs.specs.Location.{Location}
use Rattle.schema_defs.specs.Schema.{Plain, Schema, Same, Schemas, no_more, schema, Document}
use Rattle.merge_defs.specs.Outcome.{Way, Kind, Note, Unsupported, Outcome, fault, never, answer, depth, unsupported}
use Rattle.schema_defs.specs.Mapped.{mapped}
use Rattle.merge_walks.specs.Carried.{Walk, last_of, unmarked}
use Rattle.merge_walks.specs.Walked.{walk_of, less_by_walks, merge_by_walks, with_by_walks}

pub record PlacedNote : Type 0 where
  pub way : Way
  pub kind : Kind
  pub path : Location

-- never is no schema
pub record Merged : Type 0 where
  pub schema : Option Schema
  pub notes : List PlacedNote

pub data Refusal : Type 0 where
  too_deep : Walk → Refusal
  cannot : Unsupported → Location → Refusal

pub data Told : Type 0 where
  refused : Refusal → Told
  told : Merged → Told

abbrev pub note_at : Location → Note → PlacedNote
note_at l n = record { way = n.way; kind = n.kind; path = l }

-- walks as they are outside of merges
abbrev pub unmark : Plain → Plain
unmark p = record p { walk = option_map unmarked p.walk }

-- all that a merge tells stands at one place
abbrev pub told_at : Location → Outcome Schema → Told
told_at l (fault (depth w)) = refused (too_deep w)
told_at l (fault (unsupported u)) = refused (cannot u l)
told_at l (never ns) = told (record { schema = None; notes = map (note_at l) ns })
told_at l (answer ns s) = told (record { schema = Some (mapped unmark s); notes = map (note_at l) ns })

-- ---- the calls; each tells at the last location of the walk of the first schema handed in

abbrev pub place_of : Schema → Location
place_of s = last_of (walk_of s)

abbrev pub place_of_first : Schemas → Location
place_of_first no_more = []
place_of_first (schema s ss) = place_of s

abbrev pub merge_all_told : Document → ℕ → ℕ → Schemas → Told
merge_all_told d most n ss = told_at (place_of_first ss) (merge_by_walks d most n ss)

abbrev pub with_subschemas_told : Document → ℕ → ℕ → Schema → Same → Told
with_subschemas_told d most n b ss = told_at (place_of b) (with_by_walks d most n b ss)

abbrev pub subtract_told : Document → ℕ → ℕ → Schema → Schema → Told
subtract_told d most n a b = told_at (place_of a) (less_by_walks d most n a b)
