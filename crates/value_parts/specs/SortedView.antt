-- What sorted members know of themselves.
use Rattle.std.specs.Prelude.{◌≡◌, List, length, map}
use Rattle.name_tables.specs.Names.{Names}
use Rattle.value_models.specs.Names.{field_names}
use Rattle.value_models.specs.VariantView.{fields_in}
use Rattle.value_parts.specs.declared.sorted.Sorted.{Sorted}
use Rattle.value_parts.specs.At.{Entry}
use Rattle.value_parts.specs.Entries.{entries_view, slot_view}
use Rattle.value_parts.specs.Slots.{slots_after, empty_slots, entries_without_place}

abbrev pub sorted_names : Sorted → Names
sorted_names s = field_names 0 (fields_in s.fields.now)

abbrev pub sorted_entries : Sorted → List Entry
sorted_entries s = entries_view s.members.now

-- each slot has the members of its place, as many as decide; and those that no field names stand apart
pub record IsSorted (s : Sorted) : Type 0 where
  pub slotted : map slot_view s.slots.items ≡ slots_after (sorted_names s) (sorted_entries s) (empty_slots (length (fields_in s.fields.now)))
  pub apart : entries_view s.unnamed.items ≡ entries_without_place (sorted_names s) (sorted_entries s)
