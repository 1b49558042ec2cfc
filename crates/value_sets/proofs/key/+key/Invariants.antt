use Rattle.std.proofs.Common.{◌≡◌, drop}
use Rattle.serde_json.specs.View.{items_view, members_view}
use Rattle.json_value.specs.View.{items_of, members_of}
use Rattle.value_sets.specs.Key.{item_key, member_key}
use Rattle.value_sets.proofs.key.+key.Given as goal

abbrev pub invariant-item_key-loop-item : goal.invariant-item_key-loop-item
invariant-item_key-loop-item l = item_key l.key (items_of (items_view (drop l.item-index l.items.items))) ≡ item_key l.before (items_of (items_view l.items.items))

abbrev pub invariant-member_key-loop-name : goal.invariant-member_key-loop-name
invariant-member_key-loop-name l = member_key l.key (members_of (members_view l.name-iterator)) ≡ member_key l.before (members_of (members_view l.members.entries))
