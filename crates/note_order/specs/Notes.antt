-- Notes of the program, as the definitions see them.
use Rattle.std.specs.Prelude.{List, map}
use Rattle.convert_walks.specs.Told as defs
use Rattle.convert_walks.specs.Told.{Note, row_note, reference_note, formats_note, clash_note, members_note, subtract_note, absent_note}
use Rattle.row_findings.specs.View.{way_view, kind_view}
use Rattle.note_order.specs.declared.note.NoteName.{NoteName}
use Rattle.note_order.specs.declared.note.NoteName.TheVariants.{Row, Reference, Formats, Clash, Members, Subtract, Absent}
use Rattle.note_order.specs.declared.note.PlacedNote.{PlacedNote}

abbrev pub name_view : NoteName → defs.NoteName
name_view (Row k) = row_note (kind_view k)
name_view Reference = reference_note
name_view Formats = formats_note
name_view Clash = clash_note
name_view Members = members_note
name_view Subtract = subtract_note
name_view Absent = absent_note

abbrev pub placed_view : PlacedNote → Note
placed_view n = record { way = way_view n.way; name = name_view n.name; place = n.path }

abbrev pub notes_view : List PlacedNote → List Note
notes_view ns = map placed_view ns
