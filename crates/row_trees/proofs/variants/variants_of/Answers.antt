use Rattle.std.proofs.Common.{ap}
use Rattle.std.specs.Vec.Iter.{into_iter_items}
use Rattle.entry_defs.specs.Entry.{Variants}
use Rattle.tree_types.specs.View.{cases_of, contents_view, parts_of, variants_then}
use Rattle.row_findings.specs.View.{tag_view}
use Rattle.row_trees.specs.Build.{held_variants}
use Rattle.row_trees.specs.Held.{bodies_view, held_view}
use Rattle.row_trees.proofs.Turns.{variants_turn}
use Rattle.row_trees.proofs.variants.variants_of.Goals as goal

pub loop-body-preserved : goal.loop-body-preserved
loop-body-preserved c =
    let tag = tag_view c.args.tag.now in
    variants_turn tag c.args.closed (held_variants tag c.args.closed (bodies_view c.args.bodies.items)) (λ (m : Variants). variants_then tag (cases_of c.loop-body.variants.items) m)
    (λ (m : Variants). variants_then tag (cases_of c.in_ok-variants.variants.items) m) (bodies_view (into_iter_items c.loop-body.body-iterator)) (bodies_view (into_iter_items c.next.new.self))
    c.in-Some.body.name.now (held_view c.in-Some.body.held) (contents_view c.in_ok-both.both.0 (parts_of c.in_ok-both.both.1.items))
    c.loop-body.invariant (ap bodies_view c.in-Some.ensures.steps.0) c.in_ok-both.ensures (λ m. c.in_ok-variants.ensures tag m)
