use Rattle.std.proofs.Common.{◌+◌, map, drop, ap, sym, ◌∙◌}
use Rattle.schema_defs.proofs.Turns.{mapped_drop}
use Rattle.entry_defs.specs.Entry.{Fields, field_then}
use Rattle.tree_types.specs.View.{fields_view, parts_of, tree_view}
use Rattle.row_findings.specs.View.{field_view, state_view}
use Rattle.row_trees.specs.Build.{after_fields, built_fields}
use Rattle.row_trees.proofs.Turns.{fields_turn, left_turn}
use Rattle.row_trees.proofs.lists.fields_of.Goals as goal

pub loop-row-preserved : goal.loop-row-preserved
loop-row-preserved c =
    let rows = c.deref-row-items.result.now in
    let i = c.loop-row.row-index in
    let x = c.row-item.result in
    let whole = map tree_view c.args.trees.now.items in
    let es = map tree_view c.loop-row.trees.items in
    let es' = map tree_view c.first_tree.new.trees.items in
    let done = parts_of c.loop-row.fields.items in
    let done' = parts_of c.in_ok-fields.fields.items in
    let step = mapped_drop field_view rows i x c.loop-row-test.true c.row-item.is in
    record {
      fields = fields_turn (λ (m : Fields). built_fields (map field_view rows) whole m) (λ (m : Fields). fields_view done m) (λ (m : Fields). fields_view done' m)
          (field_view x) (map field_view (drop (i + 1) rows)) (tree_view c.in_ok-tree.tree) es es'
          (λ m. ap (λ fs. fields_view done (built_fields fs es m)) (sym step) ∙ c.loop-row.invariant.fields m)
          c.in_ok-tree.ensures
          (λ m. c.in_ok-fields.ensures m ∙ ap (λ e. fields_view done (field_then x.name.now x.name.now e (state_view x.state) m)) c.in_ok-held.ensures);
      left = left_turn (field_view x) (map field_view (drop (i + 1) rows)) (tree_view c.in_ok-tree.tree) es es' (after_fields (map field_view rows) whole)
          (ap (λ fs. after_fields fs es) (sym step) ∙ c.loop-row.invariant.left) c.in_ok-tree.ensures;
    }
