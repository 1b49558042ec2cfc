use Rattle.std.proofs.Common.{◌≡◌, take, map}
use Rattle.syntax_trees.specs.Item.{field_view}
use Rattle.derive_receiver.specs.Replaced.{in_field}
use Rattle.derive_receiver.specs.View.{own_view}
use Rattle.derive_receiver.proofs.item.walk_list_of_fields.Given as goal

abbrev pub invariant-loop-item : goal.invariant-loop-item
invariant-loop-item l = map field_view l.walked.items ≡ map (in_field (own_view l.own)) (map field_view (take l.item-index l.item-items))
