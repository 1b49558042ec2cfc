-- What conversion keeps beside entries.
use Rattle.std.specs.Prelude.{Bool, List, Option, drop, option_map}
use Rattle.json_value.specs.View.{kept_view as value_kept}
use Rattle.entry_defs.specs.Table.{Table}
use Rattle.tree_types.specs.View.{table_view}
use Rattle.convert_walks.specs.Told.{Note}
use Rattle.note_order.specs.Notes.{notes_view}
use Rattle.document_merges.specs.Merges.{MergeD, merges_view}
use Rattle.convert_trees.specs.Unread.{At, first_before, first_before_if, first_kept}
use Rattle.convert_trees.specs.declared.keeping.Unread.{Unread}
use Rattle.convert_trees.specs.declared.keeping.Values.{Values}
use Rattle.convert_trees.specs.declared.keeping.Merges.{Merges}
use Rattle.convert_trees.specs.declared.keeping.Kept.{Kept}

-- the table by which stated values are asked, where it is known, and the first of them that isn't read
pub record ValuesD : Type 0 where
  pub known : Option Table
  pub unread : Option At

-- the notes, what is kept of stated values, and the merges that are left
pub record KeptD : Type 0 where
  pub notes : List Note
  pub values : ValuesD
  pub merges : List MergeD

abbrev pub unread_view : Unread → At
unread_view u = (u.path, value_kept u.value.now)

abbrev pub values_view : Values → ValuesD
values_view v = record { known = option_map (λ t. table_view t.now) v.known; unread = option_map unread_view v.unread }

abbrev pub left_view : Merges → List MergeD
left_view m = merges_view (drop m.next m.all.now.items)

abbrev pub kept_view : Kept → KeptD
kept_view k = record { notes = notes_view k.notes.items; values = values_view k.values; merges = left_view k.merges }

-- with the first of these, unless there was one
abbrev pub with_unread : List At → ValuesD → ValuesD
with_unread us v = record { known = v.known; unread = first_kept v.unread us }

-- with the first of these before it
abbrev pub with_before : List At → ValuesD → ValuesD
with_before us v = record { known = v.known; unread = first_before us v.unread }

-- the same, unless one stood before both
abbrev pub with_before_if : Bool → List At → ValuesD → ValuesD
with_before_if had us v = record { known = v.known; unread = first_before_if had us v.unread }
