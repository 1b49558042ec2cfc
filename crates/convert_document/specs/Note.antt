-- Notes of the program: their words, and those that stand for the notes of the definitions.
use Rattle.std.specs.Prelude.{ℕ, List, codes}
use Rattle.convert_defs.specs.Row as defs
use Rattle.convert_walks.specs.Told as told
use Rattle.convert_document.specs.declared.note.Note.{Note}
use Rattle.convert_document.specs.declared.note.Way.{Way}
use Rattle.convert_document.specs.declared.note.Way.TheVariants.{Narrowed, Widened}
use Rattle.convert_document.specs.declared.note.NoteKind.{NoteKind}
use Rattle.convert_document.specs.declared.note.NoteKind.TheVariants.{N1, N2, N3, N4, N5, N6, N7, N8, N9, N10, N11, N12, N13, N14, N15, N16, N17, N18, N19, N20, N21}

abbrev pub way_text : Way → List ℕ
way_text Narrowed = codes "Narrowed"
way_text Widened = codes "Widened"

abbrev pub kind_text : NoteKind → List ℕ
kind_text N1 = codes "untyped"
kind_text N2 = codes "null"
kind_text N3 = codes "const"
kind_text N4 = codes "integer"
kind_text N5 = codes "string"
kind_text N6 = codes "array"
kind_text N7 = codes "open-branch"
kind_text N8 = codes "mixed-branches"
kind_text N9 = codes "tag-alone"
kind_text N10 = codes "boolean"
kind_text N11 = codes "type"
kind_text N12 = codes "overlap"
kind_text N13 = codes "counts"
kind_text N14 = codes "names"
kind_text N15 = codes "not"
kind_text N16 = codes "reference"
kind_text N17 = codes "formats"
kind_text N18 = codes "clash"
kind_text N19 = codes "members"
kind_text N20 = codes "subtract"
kind_text N21 = codes "absent"

-- ---- the notes of the definitions; the kinds after the fifteenth are of merges alone

abbrev pub way_of : defs.Way → Way
way_of defs.narrowed = Narrowed
way_of defs.widened = Widened

abbrev pub kind_of : defs.NoteKind → NoteKind
kind_of defs.untyped_note = N1
kind_of defs.null_note = N2
kind_of defs.const_note = N3
kind_of defs.integer_note = N4
kind_of defs.string_note = N5
kind_of defs.array_note = N6
kind_of defs.open_branch_note = N7
kind_of defs.mixed_branches_note = N8
kind_of defs.tag_alone_note = N9
kind_of defs.boolean_note = N10
kind_of defs.type_note = N11
kind_of defs.overlap_note = N12
kind_of defs.counts_note = N13
kind_of defs.names_note = N14
kind_of defs.not_note = N15

abbrev pub name_of : told.NoteName → NoteKind
name_of (told.row_note k) = kind_of k
name_of told.reference_note = N16
name_of told.formats_note = N17
name_of told.clash_note = N18
name_of told.members_note = N19
name_of told.subtract_note = N20
name_of told.absent_note = N21

abbrev pub note_of : told.Note → Note
note_of n = record { way = way_of n.way; kind = name_of n.name; path = n.place }
