use Rattle.std.proofs.Common.{◌≡◌, drop}
use Rattle.serde_json.specs.View.{items_view, members_view}
use Rattle.json_value.specs.View.{items_of, members_of}
use Rattle.reading_defs.specs.Proper.{items_have_json_numbers, members_have_json_numbers}
use Rattle.json_numbers.proofs.+numbers.Given as goal

abbrev pub invariant-all_have-loop-item : goal.invariant-all_have-loop-item
invariant-all_have-loop-item l = items_have_json_numbers (items_of (items_view l.items.items)) ≡ items_have_json_numbers (items_of (items_view (drop l.item-index l.items.items)))

abbrev pub invariant-members_all_have-loop-value : goal.invariant-members_all_have-loop-value
invariant-members_all_have-loop-value l = members_have_json_numbers (members_of (members_view l.members.entries)) ≡ members_have_json_numbers (members_of (members_view l.value-iterator))
