use Rattle.std.proofs.Common.{◌≡◌, drop}
use Rattle.serde_json.specs.View.{items_view, members_view}
use Rattle.json_value.specs.View.{items_of, members_of}
use Rattle.schema_tree.specs.Numbers.{wide_place_of_items, wide_place_of_members}
use Rattle.schema_tree.proofs.WidePlaces.{found}
use Rattle.schema_tree.proofs.wide.+wide.Given as goal

abbrev pub invariant-wide_in_items-loop-i : goal.invariant-wide_in_items-loop-i
invariant-wide_in_items-loop-i l = found (wide_place_of_items 0 (items_of (items_view l.items.items))) ≡ found (wide_place_of_items l.i (items_of (items_view (drop l.i l.items.items))))

abbrev pub invariant-wide_in_members-loop-name : goal.invariant-wide_in_members-loop-name
invariant-wide_in_members-loop-name l = found (wide_place_of_members (members_of (members_view l.members.entries))) ≡ found (wide_place_of_members (members_of (members_view l.name-iterator)))
