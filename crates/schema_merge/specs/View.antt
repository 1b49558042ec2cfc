-- What a call of merging answers, as the program holds it.
use Rattle.std.specs.Prelude.{List, map, option_map}
use Rattle.schema_defs.specs.Location.{Location}
use Rattle.schema_types.specs.View.{schema_view}
use Rattle.merge_defs.specs.Outcome.{Note}
use Rattle.merge_parts.specs.View.{way_view, kind_view}
use Rattle.merge_walks.specs.Told as defs
use Rattle.merge_walks.specs.Told.{note_at}
use Rattle.schema_merge.specs.declared.told.PlacedNote.{PlacedNote}
use Rattle.schema_merge.specs.declared.told.Merged.{Merged}

abbrev pub placed_view : PlacedNote → defs.PlacedNote
placed_view n = record { way = way_view n.way; kind = kind_view n.kind; path = n.path }

abbrev pub merged_view : Merged → defs.Merged
merged_view m = record { schema = option_map schema_view m.schema; notes = map placed_view m.notes.items }

-- notes that stand at one place
abbrev pub placed_at : Location → List Note → List defs.PlacedNote
placed_at l ns = map (note_at l) ns
