-- The notes of a merge in the order in which notes stand, each once: by the number of their kind, and narrowed before widened.
use Rattle.std.specs.Prelude.{ℕ, ◌&&◌, nat_eq, List, [], ◌∷◌, ◌++◌, Bool}
use Rattle.std.specs.List.{list_any}
use Rattle.schema_defs.specs.Schema.{Schema, Same, Schemas, Document}
use Rattle.merge_defs.specs.Outcome.{Way, narrowed, widened, same_way, Kind, of_integer, of_names, of_reference, of_formats, of_clash, of_members, of_subtract, of_absent, Note, note_if, Outcome, fault, never, answer}
use Rattle.merge_walks.specs.Told.{Told, told_at, place_of, place_of_first}
use Rattle.merge_walks.specs.Walked.{less_by_walks, merge_by_walks, with_by_walks}

abbrev pub number : Kind → ℕ
number of_integer = 4
number of_names = 14
number of_reference = 16
number of_formats = 17
number of_clash = 18
number of_members = 19
number of_subtract = 20
number of_absent = 21

abbrev pub is_noted : List Note → Way → Kind → Bool
is_noted ns w k = list_any (λ n. same_way w n.way && nat_eq (number k) (number n.kind)) ns

abbrev pub noted_so : List Note → Way → Kind → List Note
noted_so ns w k = note_if (is_noted ns w k) (record { way = w; kind = k } ∷ [])

abbrev pub of_kind : List Note → Kind → List Note
of_kind ns k = noted_so ns narrowed k ++ noted_so ns widened k

abbrev pub of_kinds : List Note → List Kind → List Note
of_kinds ns [] = []
of_kinds ns (k ∷ ks) = of_kind ns k ++ of_kinds ns ks

-- each kind, in the order of the numbers
abbrev pub kinds : List Kind
kinds = of_integer ∷ of_names ∷ of_reference ∷ of_formats ∷ of_clash ∷ of_members ∷ of_subtract ∷ of_absent ∷ []

abbrev pub ordered_notes : List Note → List Note
ordered_notes ns = of_kinds ns kinds

abbrev pub ordered : {A : Type 0} → Outcome A → Outcome A
ordered (fault f) = fault f
ordered (never ns) = never (ordered_notes ns)
ordered (answer ns a) = answer (ordered_notes ns) a

-- ---- the calls: what merge_walks tells, with the notes in order

abbrev pub merge_all_told : Document → ℕ → ℕ → Schemas → Told
merge_all_told d most n ss = told_at (place_of_first ss) (ordered (merge_by_walks d most n ss))

abbrev pub with_subschemas_told : Document → ℕ → ℕ → Schema → Same → Told
with_subschemas_told d most n b ss = told_at (place_of b) (ordered (with_by_walks d most n b ss))

abbrev pub subtract_told : Document → ℕ → ℕ → Schema → Schema → Told
subtract_told d most n a b = told_at (place_of a) (ordered (less_by_walks d most n a b))
