use Rattle.std.proofs.Common.{◌≡◌, ◌++◌, drop, map}
use Rattle.token_trees.specs.View.{stream}
use Rattle.syntax_trees.specs.Syntax.{tys_of, bounds_of, segments_of, generics_of, exprs_of}
use Rattle.syntax_trees.specs.View.{ty, bound_view, segment_view, generic_view, expr}
use Rattle.syntax_printing.specs.Print.{print_tys, print_bounds, print_segments, print_generics, print_exprs}
use Rattle.rust_syntax.proofs.write.+write.Given as goal

abbrev pub invariant-write_tys-loop-item : goal.invariant-write_tys-loop-item
invariant-write_tys-loop-item l = stream l.out ++ print_tys l.between (tys_of (map ty (drop l.item-index l.from))) ≡ stream l.initial.out ++ print_tys l.initial.between (tys_of (map ty l.from))

abbrev pub invariant-write_bounds-loop-item : goal.invariant-write_bounds-loop-item
invariant-write_bounds-loop-item l = stream l.out ++ print_bounds l.between (bounds_of (map bound_view (drop l.item-index l.from))) ≡ stream l.initial.out ++ print_bounds l.initial.between (bounds_of (map bound_view l.from))

abbrev pub invariant-write_segments-loop-item : goal.invariant-write_segments-loop-item
invariant-write_segments-loop-item l = stream l.out ++ print_segments l.left l.between (segments_of (map segment_view (drop l.item-index l.from))) ≡ stream l.initial.out ++ print_segments l.initial.left l.initial.between (segments_of (map segment_view l.from))

abbrev pub invariant-write_generics-loop-item : goal.invariant-write_generics-loop-item
invariant-write_generics-loop-item l = stream l.out ++ print_generics l.between (generics_of (map generic_view (drop l.item-index l.from))) ≡ stream l.initial.out ++ print_generics l.initial.between (generics_of (map generic_view l.from))

abbrev pub invariant-write_exprs-loop-item : goal.invariant-write_exprs-loop-item
invariant-write_exprs-loop-item l = stream l.out ++ print_exprs l.between (exprs_of (map expr (drop l.item-index l.from))) ≡ stream l.initial.out ++ print_exprs l.initial.between (exprs_of (map expr l.from))
