use Rattle.std.proofs.Common.{◌≡◌, take, map}
use Rattle.syntax_trees.specs.Item.{param_view}
use Rattle.derive_receiver.specs.Replaced.{in_param}
use Rattle.derive_receiver.specs.View.{own_view}
use Rattle.derive_receiver.proofs.item.walk_params.Given as goal

abbrev pub invariant-loop-item : goal.invariant-loop-item
invariant-loop-item l = map param_view l.walked.items ≡ map (in_param (own_view l.own)) (map param_view (take l.item-index l.item-items))
