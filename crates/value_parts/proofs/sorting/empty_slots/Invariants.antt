use Rattle.std.proofs.Common.{◌≡◌, ◌≤◌, map, length}
use Rattle.value_parts.specs.Entries.{slot_view}
use Rattle.value_parts.specs.Slots.{empty_slots}
use Rattle.value_parts.proofs.sorting.empty_slots.Given as goal

abbrev pub invariant-loop : goal.invariant-loop
invariant-loop l = map slot_view l.slots.items ≡ empty_slots l.index
