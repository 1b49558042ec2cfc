-- What holds of the notes of a document: they come in their order, each once.
use Rattle.std.specs.Prelude.{◌≡◌, ⊤, List, [], ◌∷◌, Bool, true}
use Rattle.std.specs.List.{list_any}
use Rattle.convert_walks.specs.Told.{Note, same_note, comes_before, ordered}

-- each comes before the next
abbrev pub Rise : List Note → Type 0
Rise [] = ⊤
Rise (m ∷ []) = ⊤
Rise (m ∷ n ∷ ns) = (comes_before m n ≡ true) × Rise (n ∷ ns)

abbrev pub has_note : Note → List Note → Bool
has_note n ns = list_any (same_note n) ns

-- they rise, and are those that they were made of
abbrev pub NotesAreOrdered : Type 0
NotesAreOrdered = (ns : List Note) → Rise (ordered ns) × ((n : Note) → has_note n (ordered ns) ≡ has_note n ns)

-- notes of one place, name and way are one note
abbrev pub SameNotesAreOne : Type 0
SameNotesAreOne = (m n : Note) → same_note m n ≡ true → m ≡ n
