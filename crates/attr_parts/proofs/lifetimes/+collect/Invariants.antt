use Rattle.std.proofs.Common.{drop, map}
use Rattle.syntax_trees.specs.Syntax.{tys_of, segments_of, generics_of}
use Rattle.syntax_trees.specs.View.{ty, segment_view, generic_view}
use Rattle.attr_parts.specs.Lifetimes.{lifetimes, all_lifetimes, segments_lifetimes, generics_lifetimes, AddsUpTo}
use Rattle.attr_parts.proofs.lifetimes.+collect.Given as goal

abbrev pub invariant-collect_tys-loop-item : goal.invariant-collect_tys-loop-item
invariant-collect_tys-loop-item l = AddsUpTo (lifetimes l.initial.out) (lifetimes l.out) (all_lifetimes (tys_of (map ty l.from))) (all_lifetimes (tys_of (map ty (drop l.item-index l.from))))

abbrev pub invariant-collect_segments-loop-item : goal.invariant-collect_segments-loop-item
invariant-collect_segments-loop-item l = AddsUpTo (lifetimes l.initial.out) (lifetimes l.out) (segments_lifetimes (segments_of (map segment_view l.from))) (segments_lifetimes (segments_of (map segment_view (drop l.item-index l.from))))

abbrev pub invariant-collect_generics-loop-item : goal.invariant-collect_generics-loop-item
invariant-collect_generics-loop-item l = AddsUpTo (lifetimes l.initial.out) (lifetimes l.out) (generics_lifetimes (generics_of (map generic_view l.from))) (generics_lifetimes (generics_of (map generic_view (drop l.item-index l.from))))
