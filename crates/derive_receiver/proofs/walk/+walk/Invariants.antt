use Rattle.std.proofs.Common.{◌≡◌, take, map}
use Rattle.syntax_trees.specs.View.{ty, bound_view, segment_view, generic_view, expr}
use Rattle.derive_receiver.specs.Replaced.{in_ty, in_bound, in_segment, in_generic, in_expr}
use Rattle.derive_receiver.specs.View.{own_view}
use Rattle.derive_receiver.proofs.walk.+walk.Given as goal

abbrev pub invariant-walk_tys-loop-item : goal.invariant-walk_tys-loop-item
invariant-walk_tys-loop-item l = map ty l.walked.items ≡ map (in_ty (own_view l.own)) (map ty (take l.item-index l.item-items))

abbrev pub invariant-walk_bounds-loop-item : goal.invariant-walk_bounds-loop-item
invariant-walk_bounds-loop-item l = map bound_view l.walked.items ≡ map (in_bound (own_view l.own)) (map bound_view (take l.item-index l.item-items))

abbrev pub invariant-walk_segments-loop-item : goal.invariant-walk_segments-loop-item
invariant-walk_segments-loop-item l = map segment_view l.walked.items ≡ map (in_segment (own_view l.own)) (map segment_view (take l.item-index l.item-items))

abbrev pub invariant-walk_generics-loop-item : goal.invariant-walk_generics-loop-item
invariant-walk_generics-loop-item l = map generic_view l.walked.items ≡ map (in_generic (own_view l.own)) (map generic_view (take l.item-index l.item-items))

abbrev pub invariant-walk_exprs-loop-item : goal.invariant-walk_exprs-loop-item
invariant-walk_exprs-loop-item l = map expr l.walked.items ≡ map (in_expr (own_view l.own)) (map expr (take l.item-index l.item-items))
