use Rattle.std.proofs.Common.{◌≡◌, drop, map}
use Rattle.syntax_trees.specs.Syntax.{tys_of, bounds_of, segments_of, generics_of, exprs_of}
use Rattle.syntax_trees.specs.View.{ty, bound_view, segment_view, generic_view, expr as expr_view}
use Rattle.attr_parts.specs.Places.{tys_spans, bounds_spans, segments_spans, generics_spans, exprs_spans, reached}
use Rattle.attr_parts.proofs.place.+see.Given as goal

abbrev pub invariant-see_tys-loop-item : goal.invariant-see_tys-loop-item
invariant-see_tys-loop-item l = reached l.reach (tys_spans (tys_of (map ty (drop l.item-index l.from)))) ≡ reached l.initial.reach (tys_spans (tys_of (map ty l.from)))

abbrev pub invariant-see_bounds-loop-item : goal.invariant-see_bounds-loop-item
invariant-see_bounds-loop-item l = reached l.reach (bounds_spans (bounds_of (map bound_view (drop l.item-index l.from)))) ≡ reached l.initial.reach (bounds_spans (bounds_of (map bound_view l.from)))

abbrev pub invariant-see_segments-loop-item : goal.invariant-see_segments-loop-item
invariant-see_segments-loop-item l = reached l.reach (segments_spans (segments_of (map segment_view (drop l.item-index l.from)))) ≡ reached l.initial.reach (segments_spans (segments_of (map segment_view l.from)))

abbrev pub invariant-see_generics-loop-item : goal.invariant-see_generics-loop-item
invariant-see_generics-loop-item l = reached l.reach (generics_spans (generics_of (map generic_view (drop l.item-index l.from)))) ≡ reached l.initial.reach (generics_spans (generics_of (map generic_view l.from)))

abbrev pub invariant-see_exprs-loop-item : goal.invariant-see_exprs-loop-item
invariant-see_exprs-loop-item l = reached l.reach (exprs_spans (exprs_of (map expr_view (drop l.item-index l.from)))) ≡ reached l.initial.reach (exprs_spans (exprs_of (map expr_view l.from)))
