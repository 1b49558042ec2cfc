-- The shape of a note at a node of the conversion tree: by the schema that is converted, or by the merge that was made there.
use Rattle.std.specs.Prelude.{◌≡◌, ◌⊎◌, List, [], ◌∷◌, Bool, true, false, Option, Some, None}
use Rattle.schema_defs.specs.Location.{Location}
use Rattle.schema_defs.specs.Texts.{Relations}
use Rattle.schema_defs.specs.Schema.{Schema, Document}
use Rattle.convert_defs.specs.Row.{NoteKind}
use Rattle.convert_defs.specs.Table.{finding_of}
use Rattle.merge_defs.specs.Outcome as merge
use Rattle.merge_defs.specs.Outcome.{Outcome, fault, never, answer}
use Rattle.convert_walks.specs.Spot.{Spot}
use Rattle.convert_walks.specs.Tree.{State, too_few_levels, too_many_steps, converted, Node}
use Rattle.convert_walks.specs.Told.{NoteName, row_note, Note, note_path, merge_note}
use Rattle.note_defs.specs.Shapes.{has_note_shape}

abbrev pub Among : {A : Type 0} → List A → A → Type 0
Among [] x = ⊥
Among (y ∷ ys) x = (y ≡ x) ⊎ Among ys x

-- of a row, at the schema or at the member to which the steps lead
abbrev pub HasRowShape : Relations → Document → Spot → Schema → Note → Type 0
HasRowShape r d o s m =
    (k : NoteKind) × (l : Location) × (has_note_shape d s l m.way k ≡ true) × (m.name ≡ row_note k) × (m.place ≡ note_path o (finding_of r d s).branches l)

-- what a merge tells of itself
abbrev pub merge_tells : Option (Outcome Schema) → List merge.Note
merge_tells None = []
merge_tells (Some (fault f)) = []
merge_tells (Some (never ns)) = ns
merge_tells (Some (answer ns s)) = ns

-- of a merge, at the written schema where it began; the shapes of those are not said here, but by the merge's own rows
abbrev pub HasMergeShape : Spot → Option (Outcome Schema) → Note → Type 0
HasMergeShape o x m = (n : merge.Note) × Among (merge_tells x) n × (merge_note o n ≡ m)

abbrev pub HasShapeBy : Relations → Document → Spot → Schema → State → Note → Type 0
HasShapeBy r d o s too_few_levels m = ⊥
HasShapeBy r d o s too_many_steps m = ⊥
HasShapeBy r d o s (converted x) m = HasRowShape r d o s m ⊎ HasMergeShape o x m

abbrev pub HasNoteShape : Relations → Document → Node → Note → Type 0
HasNoteShape r d t m = HasShapeBy r d t.spot t.schema t.state m
