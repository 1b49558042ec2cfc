use Rattle.std.proofs.Common.{◌≡◌, drop, string_cmp}
use Rattle.std.specs.Map.{keys_of}
use Rattle.std.specs.List.Sorted.{IsStrictlySortedBy}
use Rattle.serde_json.specs.View.{items_view, members_view}
use Rattle.json_value.specs.View.{items_of, members_of}
use Rattle.example_defs.specs.Built.{items_are_small, members_are_small}
use Rattle.example_parts.proofs.small.+small.Given as goal

abbrev pub invariant-items_are_small-loop-item : goal.invariant-items_are_small-loop-item
invariant-items_are_small-loop-item l = items_are_small (items_of (items_view l.items.items)) ≡ items_are_small (items_of (items_view (drop l.item-index l.items.items)))

abbrev pub invariant-members_are_small-loop-value : goal.invariant-members_are_small-loop-value
invariant-members_are_small-loop-value l = record {
  left : members_are_small (members_of (members_view l.members.entries)) ≡ members_are_small (members_of (members_view l.value-iterator));
  rises : IsStrictlySortedBy string_cmp (keys_of l.value-iterator);
}
