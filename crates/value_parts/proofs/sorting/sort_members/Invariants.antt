use Rattle.std.proofs.Common.{◌≡◌, ◌++◌, map, drop}
use Rattle.value_models.specs.Names.{field_names}
use Rattle.value_models.specs.VariantView.{fields_in}
use Rattle.value_parts.specs.Entries.{entries_view, slot_view}
use Rattle.value_parts.specs.Slots.{slots_after, entries_without_place}
use Rattle.value_parts.proofs.sorting.sort_members.Given as goal

abbrev pub invariant-loop-at : goal.invariant-loop-at
invariant-loop-at l =
    let names = field_names 0 (fields_in l.fields) in record {
      slots : slots_after names (entries_view (drop l.at l.members)) (map slot_view l.slots.items) ≡ slots_after names (entries_view l.members) (map slot_view l.initial.slots.items);
      unnamed : entries_view l.unnamed.items ++ entries_without_place names (entries_view (drop l.at l.members)) ≡ entries_view l.initial.unnamed.items ++ entries_without_place names (entries_view l.members);
    }
