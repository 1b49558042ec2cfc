use Rattle.std.proofs.Common.{◌≡◌, take}
use Rattle.value_models.specs.TypedView.{pairs_view, typeds_view}
use Rattle.value_models.proofs.typed.+copy.Given as goal

abbrev pub invariant-copy_list-loop-item : goal.invariant-copy_list-loop-item
invariant-copy_list-loop-item l = typeds_view l.copies.items ≡ typeds_view (take l.item-index l.item-items)

abbrev pub invariant-copy_pairs-loop-key : goal.invariant-copy_pairs-loop-key
invariant-copy_pairs-loop-key l = pairs_view l.copies.items ≡ pairs_view (take l.key-index l.key-items)
