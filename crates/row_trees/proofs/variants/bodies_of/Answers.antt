use Rattle.std.proofs.Common.{◌+◌, ◌++◌, map, drop, ap, sym, ◌∙◌}
use Rattle.std.proofs.lemmas.List.{map_push}
use Rattle.schema_defs.proofs.Turns.{mapped_drop}
use Rattle.tree_types.specs.View.{tree_view}
use Rattle.row_findings.specs.View.{variant_view}
use Rattle.row_trees.specs.Build.{bodies_held}
use Rattle.row_trees.specs.Held.{bodies_view, body_seen}
use Rattle.row_trees.proofs.Turns.{bodies_turn}
use Rattle.row_trees.proofs.variants.bodies_of.Goals as goal

pub loop-row-preserved : goal.loop-row-preserved
loop-row-preserved c =
    let rows = c.deref-row-items.result.now in
    let i = c.loop-row.row-index in
    let x = c.row-item.result in
    let es = map tree_view c.loop-row.trees.items in
    let done = bodies_view c.loop-row.bodies.items in
    bodies_turn (bodies_held (map variant_view rows) (map tree_view c.args.trees.now.items)) done (bodies_view c.push.new.self.items) (variant_view x) (map variant_view (drop (i + 1) rows))
    (body_seen c.in_ok-body.body) es (map tree_view c.body_of.new.trees.items)
    (ap (λ ws. done ++ bodies_held ws es) (sym (mapped_drop variant_view rows i x c.loop-row-test.true c.row-item.is)) ∙ c.loop-row.invariant)
    (ap bodies_view c.in_ok-push.ensures.items ∙ map_push body_seen c.loop-row.bodies.items c.in_ok-body.body)
    c.in_ok-body.ensures.body c.in_ok-body.ensures.left
