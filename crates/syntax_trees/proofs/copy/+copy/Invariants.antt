use Rattle.std.proofs.Common.{◌≡◌, take, map}
use Rattle.syntax_trees.specs.View.{ty, bound_view, segment_view, generic_view, expr}
use Rattle.syntax_trees.proofs.copy.+copy.Given as goal

abbrev pub invariant-copy_tys-loop-item : goal.invariant-copy_tys-loop-item
invariant-copy_tys-loop-item l = map ty l.copies.items ≡ map ty (take l.item-index l.item-items)

abbrev pub invariant-copy_bounds-loop-item : goal.invariant-copy_bounds-loop-item
invariant-copy_bounds-loop-item l = map bound_view l.copies.items ≡ map bound_view (take l.item-index l.item-items)

abbrev pub invariant-copy_path-loop-item : goal.invariant-copy_path-loop-item
invariant-copy_path-loop-item l = map segment_view l.segments.items ≡ map segment_view (take l.item-index l.item-items)

abbrev pub invariant-copy_generics-loop-item : goal.invariant-copy_generics-loop-item
invariant-copy_generics-loop-item l = map generic_view l.copies.items ≡ map generic_view (take l.item-index l.item-items)

abbrev pub invariant-copy_exprs-loop-item : goal.invariant-copy_exprs-loop-item
invariant-copy_exprs-loop-item l = map expr l.copies.items ≡ map expr (take l.item-index l.item-items)
