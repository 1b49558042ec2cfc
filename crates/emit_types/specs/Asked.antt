-- Spaces of the program, and what was found of them: the parts of the graph of uses, and which entries lead to an option.
use Rattle.std.specs.Prelude.{ℕ, ◌&&◌, ◌==◌, nat_lt, List, length, map, Bool, false, Option, Some, None, slice_index, slice_index_or}
use Rattle.entry_defs.specs.Space.{Id, ShapeAt, Space}
use Rattle.entry_types.specs.declared.entry.TypeEntry.{TypeEntry}
use Rattle.entry_types.specs.View.{entry_view}
use Rattle.space_defs.specs.Items.{ItemAt}
use Rattle.space_defs.specs.Types.{none_boxed}

abbrev pub space_view : List TypeEntry → Space
space_view entries = map entry_view entries

-- an id of the space and another lie in one part; what is no id of the space lies in none
abbrev pub same_part : List ℕ → Id → Id → Bool
same_part parts owner used = nat_lt used (length parts) && (slice_index parts owner == slice_index parts used)

-- which items are boxed inside an item, and outside items
abbrev pub boxed_in : List ℕ → Option Id → Id → Bool
boxed_in parts None = none_boxed
boxed_in parts (Some owner) = same_part parts owner

abbrev pub leads_by : List Bool → Id → Bool
leads_by leads i = slice_index_or leads i false

abbrev pub placed_item : Id → List ℕ → ShapeAt → ItemAt
placed_item i n s = record { id = i; name = n; shape = s }
