use Rattle.std.proofs.Common.{◌≡◌, drop}
use Rattle.serde_json.specs.View.{items_view, members_view}
use Rattle.json_value.specs.View.{items_of, members_of}
use Rattle.schema_tree.specs.Numbers.{items_hold_i64_alone, members_hold_i64_alone}
use Rattle.schema_tree.proofs.number.+numbers.Given as goal

abbrev pub invariant-all_hold-loop-item : goal.invariant-all_hold-loop-item
invariant-all_hold-loop-item l = items_hold_i64_alone (items_of (items_view l.items.items)) ≡ items_hold_i64_alone (items_of (items_view (drop l.item-index l.items.items)))

abbrev pub invariant-members_all_hold-loop-value : goal.invariant-members_all_hold-loop-value
invariant-members_all_hold-loop-value l = members_hold_i64_alone (members_of (members_view l.members.entries)) ≡ members_hold_i64_alone (members_of (members_view l.value-iterator))
