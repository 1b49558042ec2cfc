use Rattle.std.proofs.Common.{◌≡◌, take, map}
use Rattle.syntax_trees.specs.Item.{variant_view}
use Rattle.derive_receiver.specs.Replaced.{in_variant}
use Rattle.derive_receiver.specs.View.{own_view}
use Rattle.derive_receiver.proofs.item.walk_variants.Given as goal

abbrev pub invariant-loop-item : goal.invariant-loop-item
invariant-loop-item l = map variant_view l.walked.items ≡ map (in_variant (own_view l.own)) (map variant_view (take l.item-index l.item-items))
