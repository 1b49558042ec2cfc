-- The entries of a space of the program.
use Rattle.std.specs.Prelude.{map}
use Rattle.entry_defs.specs.Space.{Space}
use Rattle.entry_types.specs.View.{entry_view}
use Rattle.entry_space.specs.declared.space.EntrySpace.{EntrySpace}
use Rattle.entry_space.specs.declared.iter.TypeEntries.{TypeEntries}

abbrev pub seen : EntrySpace → Space
seen s = map (λ p. entry_view p.1) s.entries.entries

-- those that an iterator has left
abbrev pub entries_left : TypeEntries → Space
entries_left n = map (λ p. entry_view p.1) n.left
