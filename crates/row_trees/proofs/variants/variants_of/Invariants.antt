use Rattle.std.proofs.Common.{◌≡◌}
use Rattle.std.specs.Vec.Iter.{into_iter_items}
use Rattle.tree_types.specs.View.{cases_of, variants_then}
use Rattle.row_findings.specs.View.{tag_view}
use Rattle.row_trees.specs.Build.{held_variants}
use Rattle.row_trees.specs.Held.{bodies_view}
use Rattle.row_trees.proofs.variants.variants_of.Given as goal

abbrev pub invariant-loop-body : goal.invariant-loop-body
invariant-loop-body l = variants_then (tag_view l.tag) (cases_of l.variants.items) (held_variants (tag_view l.tag) l.closed (bodies_view (into_iter_items l.body-iterator))) ≡ held_variants (tag_view l.tag) l.closed (bodies_view l.fn.bodies.items)
