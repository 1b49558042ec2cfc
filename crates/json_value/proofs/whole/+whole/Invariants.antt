use Rattle.std.proofs.Common.{◌≡◌, drop}
use Rattle.serde_json.specs.View.{items_view, members_view}
use Rattle.json_value.specs.Value.{all_whole as items_are_whole}
use Rattle.json_value.specs.Value.{members_whole as members_are_whole}
use Rattle.json_value.specs.View.{items_of, members_of}
use Rattle.json_value.proofs.whole.+whole.Given as goal

abbrev pub invariant-all_whole-loop-item : goal.invariant-all_whole-loop-item
invariant-all_whole-loop-item l = items_are_whole (items_of (items_view l.items.items)) ≡ items_are_whole (items_of (items_view (drop l.item-index l.items.items)))

abbrev pub invariant-members_whole-loop-value : goal.invariant-members_whole-loop-value
invariant-members_whole-loop-value l = members_are_whole (members_of (members_view l.members.entries)) ≡ members_are_whole (members_of (members_view l.value-iterator))
