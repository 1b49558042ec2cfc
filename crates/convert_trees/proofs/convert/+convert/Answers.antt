use Rattle.std.specs.Prelude.{None, Some, is_some}
use Rattle.std.proofs.Common.{◌≡◌, List, [], ◌∷◌, ◌++◌, ◌-◌, ◌+◌, ◌*◌, ◌<◌, map, refl, sym, ap, ◌∙◌, subst, arith, rules, option_map}
use Rattle.schema_defs.specs.Texts.{Relations}
use Rattle.schema_types.specs.View.{schema_view}
use Rattle.schema_tree.specs.Document.{view as document_seen}
use Rattle.schema_tree.specs.Fault.{fault_view}
use Rattle.convert_defs.specs.Convert.{Handed, named_by}
use Rattle.convert_defs.specs.Row.{Part, row_parts}
use Rattle.tree_types.specs.View.{tree_view}
use Rattle.convert_walks.specs.Spot.{part_spot}
use Rattle.convert_walks.specs.Told.{merge_note, placed_note}
use Rattle.convert_walks.specs.Tree.{Standing as StandingOf, entry_at, tree_at}
use Rattle.merged_rows.specs.Starts.{path_by, spot_of}
use Rattle.merge_parts.specs.View.{notes_view as merge_notes_view}
use Rattle.document_merges.specs.Merges.{end_view, merge_of_row, merge_view, merges_in, stands}
use Rattle.row_findings.specs.declared.part.Steps.{Steps}
use Rattle.row_findings.specs.Given.{source_view}
use Rattle.row_findings.specs.View.{branch_view, finding_view, part_view, row_view}
use Rattle.row_trees.specs.Build.{built}
use Rattle.convert_trees.specs.Keeping.{kept_view}
use Rattle.document_merges.specs.Listed.{listed_view}
use Rattle.convert_trees.specs.Told.{Begins, IsTold, IsToldOf, Refuses, RefusesOf, at_parts, at_schema}
use Rattle.convert_trees.proofs.Ends.{if_err, none_from}
use Rattle.convert_trees.proofs.Here.{begins_on, deep_on, entry_on, parts_here, plain_begins, plain_entry, refuses_on, told_here, told_on}
use Rattle.convert_trees.proofs.Merged.{merge_refuses, merging, next_is, standing_begins, standing_entry_is, standing_refuses, standing_told}
use Rattle.convert_trees.proofs.Parts.{all_nodes, entries_all, entries_next, part_begins, part_entry, part_refuses, told_all, told_next}
use Rattle.convert_trees.proofs.Rows.{had_seen, told_of_row}
use Rattle.convert_trees.proofs.Spots.{schema_of_part}
use Rattle.convert_trees.proofs.Telling.{passed_none, refuses_from, want_refuses}
use Rattle.convert_trees.proofs.convert.+convert.Goals as goal

-- ---- by so many levels

pub convert-returns-clause-entry : goal.convert-returns-clause-entry
convert-returns-clause-entry g t c =
    let r = g.T.Texts.relations c.args.texts.now in
    let d = document_seen c.args.scope.now.document.now in
    let h = option_map (λ n. n.now) c.args.handed in
    let o = spot_of c.args.scope.now.start.now c.args.trail.now.items h in
    entry_on r d c.args.scope.now.depth c.args.levels o (source_view c.args.source.now) (λ k. absurd (omega (arith, k, c.if-levels-eq0.false))) (tree_view c.in_ok-tree.tree) c.in_ok-tree.ensures.entry

pub convert-returns-clause-told : goal.convert-returns-clause-told
convert-returns-clause-told g t c =
    let r = g.T.Texts.relations c.args.texts.now in
    let d = document_seen c.args.scope.now.document.now in
    let h = option_map (λ n. n.now) c.args.handed in
    let o = spot_of c.args.scope.now.start.now c.args.trail.now.items h in
    told_on r d c.args.scope.now.depth c.args.levels o (source_view c.args.source.now) (λ k. absurd (omega (arith, k, c.if-levels-eq0.false))) _ _ c.in_ok-tree.ensures.told

pub convert-returns-then-levels-eq0-clause-refused : goal.convert-returns-then-levels-eq0-clause-refused
convert-returns-then-levels-eq0-clause-refused g t c = want_refuses _ _ _ _ _ _ _ _ refl

pub convert-returns-then-is_deep-clause-refused : goal.convert-returns-then-is_deep-clause-refused
convert-returns-then-is_deep-clause-refused g t c =
    let r = g.T.Texts.relations c.args.texts.now in
    let d = document_seen c.args.scope.now.document.now in
    let h = option_map (λ n. n.now) c.args.handed in
    let o = spot_of c.args.scope.now.start.now c.args.trail.now.items h in
    deep_on r d c.args.scope.now.depth c.args.levels o (source_view c.args.source.now) (λ k. absurd (omega (arith, k, c.if-levels-eq0.false))) _ _ _ (sym c.is_deep.ensures ∙ c.if-is_deep.true) c.too_deep.ensures

pub convert-returns-in_err-finding-clause-refused : goal.convert-returns-in_err-finding-clause-refused
convert-returns-in_err-finding-clause-refused g t c =
    if_err c.from_residual.result c.in_err-finding.field-0.0 _ c.from_residual.ensures.1 (want_refuses _ _ _ _ _ _ _ _ c.in_err-finding.ensures.memory)

pub convert-returns-in_err-tree-clause-refused : goal.convert-returns-in_err-tree-clause-refused
convert-returns-in_err-tree-clause-refused g t c =
    let r = g.T.Texts.relations c.args.texts.now in
    let d = document_seen c.args.scope.now.document.now in
    let h = option_map (λ n. n.now) c.args.handed in
    let o = spot_of c.args.scope.now.start.now c.args.trail.now.items h in
    if_err c.from_residual-in_err-tree.result c.in_err-tree.field-0.0 _ c.from_residual-in_err-tree.ensures.1
    (refuses_on r d c.args.scope.now.depth c.args.levels o (source_view c.args.source.now) (λ k. absurd (omega (arith, k, c.if-levels-eq0.false))) _ _ _ c.in_err-tree.ensures.refused)

pub convert-convert_found-requires : goal.convert-convert_found-requires
convert-convert_found-requires g t c =
    let r = g.T.Texts.relations c.args.texts.now in
    let d = document_seen c.args.scope.now.document.now in
    let h = option_map (λ n. n.now) c.args.handed in
    let o = spot_of c.args.scope.now.start.now c.args.trail.now.items h in
    let e : c.args.levels * 10 ≡ t = c.decreases in
    let k : (c.args.levels - 1) * 10 + 7 < t = omega (arith, e, c.if-levels-eq0.false) in
    λ κs within. (k, (within, (c.in_ok-finding.ensures.finding, (sym c.is_deep.ensures ∙ c.if-is_deep.false, begins_on r d c.args.scope.now.depth c.args.levels o (source_view c.args.source.now) (λ k. absurd (omega (arith, k, c.if-levels-eq0.false))) (kept_view c.args.kept.now).merges c.requires))))

-- ---- by what was found

pub convert_found-convert_merged-requires : goal.convert_found-convert_merged-requires
convert_found-convert_merged-requires g t c =
    let e : c.args.levels * 10 + 7 ≡ t = c.decreases in
    let k : c.args.levels * 10 + 6 < t = omega (arith, e) in
    λ κs within. (k, (within, (c.requires.finding, (c.requires.walk, ((λ r. ap is_some (sym (c.in-Some.ensures r))), c.requires.begins)))))

pub convert_found-convert_plain-requires : goal.convert_found-convert_plain-requires
convert_found-convert_plain-requires g t c =
    let e : c.args.levels * 10 + 7 ≡ t = c.decreases in
    let k : c.args.levels * 10 + 6 < t = omega (arith, e) in
    λ κs within. (k, (within, (c.requires.finding, (c.requires.walk, ((λ r. sym (c.in-None.ensures r)), c.requires.begins)))))

-- ---- a row that doesn't merge

pub convert_plain-convert_row-requires : goal.convert_plain-convert_row-requires
convert_plain-convert_row-requires g t c =
    let r = g.T.Texts.relations c.args.texts.now in
    let d = document_seen c.args.scope.now.document.now in
    let s = source_view c.args.source.now in
    let h = option_map (λ n. n.now) c.args.handed in
    let o = spot_of c.args.scope.now.start.now c.args.trail.now.items h in
    let row = c.args.finding.now.row in
    let ms = map branch_view c.args.finding.now.branches.items in
    let e : c.args.levels * 10 + 6 ≡ t = c.decreases in
    let k : c.args.levels * 10 + 5 < t = omega (arith, e) in
    let parts_first =
    subst (λ (r : Relations). Begins (kept_view c.checked.new.kept).merges (merges_in (all_nodes r d c.args.scope.now.depth c.args.levels o ms (row_parts (row_view r row))))) (sym c.in_ok-checked.ensures.keeps)
    (plain_begins r d c.args.scope.now.depth c.args.levels o s (finding_view r c.args.finding.now) (c.requires.finding r) c.requires.walk (c.requires.plain r)
    (kept_view c.args.kept.now) (kept_view c.checked.new.kept) (c.in_ok-checked.ensures.branches r d h) c.in_ok-checked.ensures.merges c.requires.begins) in
    λ κs within. (k, (within, parts_first))

pub convert_plain-returns-clause-entry : goal.convert_plain-returns-clause-entry
convert_plain-returns-clause-entry g t c =
    let r = g.T.Texts.relations c.args.texts.now in
    let d = document_seen c.args.scope.now.document.now in
    let s = source_view c.args.source.now in
    let h = option_map (λ n. n.now) c.args.handed in
    let o = spot_of c.args.scope.now.start.now c.args.trail.now.items h in
    let row = c.args.finding.now.row in
    let ms = map branch_view c.args.finding.now.branches.items in
    plain_entry r d c.args.scope.now.depth c.args.levels o s (finding_view r c.args.finding.now) (c.requires.finding r) c.requires.walk (c.requires.plain r) (tree_view c.in_ok-tree.tree)
    (c.in_ok-tree.ensures.entry
    ∙ ap (λ (r : Relations). built (named_by h s) (row_view r row) (map (part_entry r d c.args.scope.now.depth c.args.levels o ms) (row_parts (row_view r row)))) c.in_ok-checked.ensures.keeps)

pub convert_plain-returns-clause-told : goal.convert_plain-returns-clause-told
convert_plain-returns-clause-told g t c =
    let r = g.T.Texts.relations c.args.texts.now in
    let d = document_seen c.args.scope.now.document.now in
    let s = source_view c.args.source.now in
    let h = option_map (λ n. n.now) c.args.handed in
    let o = spot_of c.args.scope.now.start.now c.args.trail.now.items h in
    let row = c.args.finding.now.row in
    let ms = map branch_view c.args.finding.now.branches.items in
    told_here r d c.args.scope.now.depth c.args.levels o s (finding_view r c.args.finding.now) (c.requires.finding r) c.requires.walk (c.requires.plain r)
    (c.in_ok-checked.ensures.fine d) (c.in_ok-checked.ensures.branches r d h)
    (kept_view c.args.kept.now) (kept_view c.checked.new.kept) (kept_view c.convert_row.new.kept) (tree_view c.in_ok-tree.tree)
    (c.in_ok-checked.ensures.notes h) c.in_ok-checked.ensures.values c.in_ok-checked.ensures.merges (convert_plain-returns-clause-entry g t c)
    (subst (λ (r : Relations). IsToldOf r d c.args.scope.now.depth c.args.levels o.path s (row_view r row) (tree_view c.in_ok-tree.tree) (all_nodes r d c.args.scope.now.depth c.args.levels o ms (row_parts (row_view r row))) (kept_view c.checked.new.kept) (kept_view c.convert_row.new.kept))
    c.in_ok-checked.ensures.keeps c.in_ok-tree.ensures.told)

pub convert_plain-returns-in_err-checked-clause-refused : goal.convert_plain-returns-in_err-checked-clause-refused
convert_plain-returns-in_err-checked-clause-refused g t c =
    let r = g.T.Texts.relations c.args.texts.now in
    if_err c.from_residual.result c.in_err-checked.field-0.0 _ c.from_residual.ensures.1
    (c.in_err-checked.ensures.refused c.args.levels (option_map (λ n. n.now) c.args.handed) (c.requires.finding r) (c.requires.plain r) c.requires.walk)

pub convert_plain-returns-in_err-tree-clause-refused : goal.convert_plain-returns-in_err-tree-clause-refused
convert_plain-returns-in_err-tree-clause-refused g t c =
    let r = g.T.Texts.relations c.args.texts.now in
    let d = document_seen c.args.scope.now.document.now in
    let s = source_view c.args.source.now in
    let h = option_map (λ n. n.now) c.args.handed in
    let o = spot_of c.args.scope.now.start.now c.args.trail.now.items h in
    let row = c.args.finding.now.row in
    let ms = map branch_view c.args.finding.now.branches.items in
    if_err c.from_residual-in_err-tree.result c.in_err-tree.field-0.0 _ c.from_residual-in_err-tree.ensures.1
    (refuses_from r d c.args.scope.now.depth c.args.levels _ _ _ _ _ c.in_ok-checked.ensures.counts
    (parts_here r d c.args.scope.now.depth c.args.levels o s (finding_view r c.args.finding.now) (c.requires.finding r) c.requires.walk (c.requires.plain r)
    (c.in_ok-checked.ensures.fine d) (c.in_ok-checked.ensures.branches r d h) _ _ _
    (subst (λ (r : Relations). RefusesOf r d c.args.scope.now.depth c.args.levels o.path (g.T.Texts.faults c.checked.new.texts) (g.T.Texts.faults c.convert_row.new.texts) (all_nodes r d c.args.scope.now.depth c.args.levels o ms (row_parts (row_view r row))) (fault_view c.in_err-tree.field-0.0))
    c.in_ok-checked.ensures.keeps c.in_err-tree.ensures.refused)))

-- ---- the row that was checked

pub convert_row-convert_parts-requires : goal.convert_row-convert_parts-requires
convert_row-convert_parts-requires g t c =
    let r = g.T.Texts.relations c.args.texts.now in
    let d = document_seen c.args.scope.now.document.now in
    let h = option_map (λ n. n.now) c.args.handed in
    let o = spot_of c.args.scope.now.start.now c.args.trail.now.items h in
    let ms = map branch_view c.args.finding.now.branches.items in
    let e : c.args.levels * 10 + 5 ≡ t = c.decreases in
    let k : c.args.levels * 10 + 4 < t = omega (arith, e) in
    λ κs within. (k, (within, subst (λ (ps : List Part). Begins (kept_view c.args.kept.now).merges (merges_in (all_nodes r d c.args.scope.now.depth c.args.levels o ms ps))) (sym (ap listed_view c.deref.ensures.value ∙ c.in_ok-parts.ensures.parts r)) c.requires))

pub convert_row-returns-clause-entry : goal.convert_row-returns-clause-entry
convert_row-returns-clause-entry g t c =
    let r = g.T.Texts.relations c.args.texts.now in
    let d = document_seen c.args.scope.now.document.now in
    let h = option_map (λ n. n.now) c.args.handed in
    let o = spot_of c.args.scope.now.start.now c.args.trail.now.items h in
    let ms = map branch_view c.args.finding.now.branches.items in
    let es = c.in_ok-trees.ensures.entry ∙ ap (map (part_entry r d c.args.scope.now.depth c.args.levels o ms)) (ap listed_view c.deref.ensures.value ∙ c.in_ok-parts.ensures.parts r) in
    c.in_ok-tree.ensures.answer ∙ (λ i. built (c.named-name.ensures i) (row_view (c.in_ok-trees.ensures.keeps i) c.args.finding.now.row) (es i))

pub convert_row-returns-clause-told : goal.convert_row-returns-clause-told
convert_row-returns-clause-told g t c =
    let r = g.T.Texts.relations c.args.texts.now in
    let d = document_seen c.args.scope.now.document.now in
    let h = option_map (λ n. n.now) c.args.handed in
    let o = spot_of c.args.scope.now.start.now c.args.trail.now.items h in
    let ms = map branch_view c.args.finding.now.branches.items in
    told_of_row r d c.args.scope.now.depth c.args.levels (path_by c.args.scope.now.start.now c.args.trail.now.items) (source_view c.args.source.now) c.args.finding.now.row (tree_view c.in_ok-tree.tree) _
    (kept_view c.args.kept.now) (kept_view c.convert_parts.new.kept) (kept_view c.finished.new.kept) (g.T.Texts.relations c.convert_parts.new.texts) c.is_some-had.result
    c.in_ok-trees.ensures.keeps (had_seen c.args.kept.now.values.unread c.is_some-had.result c.is_some-had.ensures)
    (subst (λ (ps : List Part). IsTold r d c.args.scope.now.depth c.args.levels (all_nodes r d c.args.scope.now.depth c.args.levels o ms ps) (kept_view c.args.kept.now) (kept_view c.convert_parts.new.kept))
    (ap listed_view c.deref.ensures.value ∙ c.in_ok-parts.ensures.parts r) c.in_ok-trees.ensures.told)
    c.in_ok-tree.ensures.notes c.in_ok-tree.ensures.merges c.in_ok-tree.ensures.values

pub convert_row-returns-in_err-parts-clause-refused : goal.convert_row-returns-in_err-parts-clause-refused
convert_row-returns-in_err-parts-clause-refused g t c =
    if_err c.from_residual.result c.in_err-parts.field-0.0 _ c.from_residual.ensures.1 (at_parts (want_refuses _ _ _ _ _ _ _ _ c.in_err-parts.ensures.memory))

pub convert_row-returns-in_err-trees-clause-refused : goal.convert_row-returns-in_err-trees-clause-refused
convert_row-returns-in_err-trees-clause-refused g t c =
    let r = g.T.Texts.relations c.args.texts.now in
    let d = document_seen c.args.scope.now.document.now in
    let h = option_map (λ n. n.now) c.args.handed in
    let o = spot_of c.args.scope.now.start.now c.args.trail.now.items h in
    let ms = map branch_view c.args.finding.now.branches.items in
    if_err c.from_residual-in_err-trees.result c.in_err-trees.field-0.0 _ c.from_residual-in_err-trees.ensures.1
    (at_parts (subst (λ (ps : List Part). Refuses r d c.args.scope.now.depth c.args.levels (g.T.Texts.faults c.args.texts.now) (g.T.Texts.faults c.convert_parts.new.texts) (all_nodes r d c.args.scope.now.depth c.args.levels o ms ps) (fault_view c.in_err-trees.field-0.0))
    (ap listed_view c.deref.ensures.value ∙ c.in_ok-parts.ensures.parts r) c.in_err-trees.ensures.refused))

pub convert_row-returns-in_err-tree-clause-refused : goal.convert_row-returns-in_err-tree-clause-refused
convert_row-returns-in_err-tree-clause-refused g t c =
    if_err c.from_residual-in_err-tree.result c.in_err-tree.field-0.0 _ c.from_residual-in_err-tree.ensures.1
    (at_schema (none_from _ _ _ _ _ c.in_ok-trees.ensures.counts c.in_err-tree.ensures.refused))

-- ---- one part after another

pub convert_parts-convert_part-requires : goal.convert_parts-convert_part-requires
convert_parts-convert_part-requires g t c =
    let r = g.T.Texts.relations c.args.texts.now in
    let d = document_seen c.args.scope.now.document.now in
    let h = option_map (λ n. n.now) c.args.handed in
    let o = spot_of c.args.scope.now.start.now c.args.trail.now.items h in
    let ms = map branch_view c.args.branches.now.items in
    let inv = c.loop-listed.invariant in
    let e : c.args.levels * 10 + 4 ≡ t = c.decreases in
    let k : c.args.levels * 10 + 3 < t = omega (arith, e) in
    let next_first =
    part_begins r d c.args.scope.now.depth c.args.levels o ms _ inv.keeps c.args.parts.now c.loop-listed.listed-index c.listed-item.result (kept_view c.args.kept.now) (kept_view c.loop-listed.kept)
    c.loop-listed-test.true c.listed-item.is inv.told c.requires in
    λ κs within. (k, (within, next_first))

pub convert_parts-loop-listed-init : goal.convert_parts-loop-listed-init
convert_parts-loop-listed-init g t c = record {
  entries = search rules;
  told = passed_none _ _ _ _ _ _;
  keeps = refl;
  counts = omega arith;
}

pub convert_parts-loop-listed-preserved : goal.convert_parts-loop-listed-preserved
convert_parts-loop-listed-preserved g t c =
    let r = g.T.Texts.relations c.args.texts.now in
    let r' = g.T.Texts.relations c.loop-listed.texts in
    let d = document_seen c.args.scope.now.document.now in
    let h = option_map (λ n. n.now) c.args.handed in
    let o = spot_of c.args.scope.now.start.now c.args.trail.now.items h in
    let ms = map branch_view c.args.branches.now.items in
    let most = c.args.scope.now.depth in
    let inv = c.loop-listed.invariant in
    record {
      entries = entries_next r d most c.args.levels o ms r' inv.keeps c.args.parts.now c.loop-listed.listed-index c.listed-item.result (tree_view c.in_ok-tree.tree) (map tree_view c.loop-listed.trees.items) (map tree_view c.push_tree.new.trees.items) _
          c.loop-listed-test.true c.listed-item.is inv.entries c.in_ok-push_tree.ensures.trees c.in_ok-tree.ensures.entry;
      told = told_next r d most c.args.levels o ms r' inv.keeps c.args.parts.now c.loop-listed.listed-index c.listed-item.result (kept_view c.args.kept.now) (kept_view c.loop-listed.kept) (kept_view c.convert_part.new.kept)
          c.loop-listed-test.true c.listed-item.is inv.told c.in_ok-tree.ensures.told;
      keeps = c.in_ok-tree.ensures.keeps ∙ inv.keeps;
      counts = omega (arith, inv.counts, c.in_ok-tree.ensures.counts);
    }

pub convert_parts-returns-clause-entry : goal.convert_parts-returns-clause-entry
convert_parts-returns-clause-entry g t c =
    let r = g.T.Texts.relations c.args.texts.now in
    let d = document_seen c.args.scope.now.document.now in
    let h = option_map (λ n. n.now) c.args.handed in
    let o = spot_of c.args.scope.now.start.now c.args.trail.now.items h in
    let ms = map branch_view c.args.branches.now.items in
    entries_all r d c.args.scope.now.depth c.args.levels o ms _ c.loop-listed.invariant.keeps c.args.parts.now c.loop-listed.listed-index (map tree_view c.loop-listed.trees.items) c.loop-listed-test.false c.loop-listed.invariant.entries

pub convert_parts-returns-clause-told : goal.convert_parts-returns-clause-told
convert_parts-returns-clause-told g t c =
    let r = g.T.Texts.relations c.args.texts.now in
    let d = document_seen c.args.scope.now.document.now in
    let h = option_map (λ n. n.now) c.args.handed in
    let o = spot_of c.args.scope.now.start.now c.args.trail.now.items h in
    let ms = map branch_view c.args.branches.now.items in
    told_all r d c.args.scope.now.depth c.args.levels o ms _ c.loop-listed.invariant.keeps c.args.parts.now c.loop-listed.listed-index (kept_view c.args.kept.now) (kept_view c.loop-listed.kept)
    c.loop-listed-test.false c.loop-listed.invariant.told

pub convert_parts-returns-in_err-tree-clause-refused : goal.convert_parts-returns-in_err-tree-clause-refused
convert_parts-returns-in_err-tree-clause-refused g t c =
    let r = g.T.Texts.relations c.args.texts.now in
    let d = document_seen c.args.scope.now.document.now in
    let h = option_map (λ n. n.now) c.args.handed in
    let o = spot_of c.args.scope.now.start.now c.args.trail.now.items h in
    let ms = map branch_view c.args.branches.now.items in
    let inv = c.loop-listed.invariant in
    if_err c.from_residual.result c.in_err-tree.field-0.0 _ c.from_residual.ensures.1
    (part_refuses r d c.args.scope.now.depth c.args.levels o ms _ inv.keeps c.args.parts.now c.loop-listed.listed-index c.listed-item.result (kept_view c.args.kept.now) (kept_view c.loop-listed.kept) _ _ _ _
    c.loop-listed-test.true c.listed-item.is inv.told inv.counts c.in_err-tree.ensures.refused)

pub convert_parts-returns-in_err-push_tree-clause-refused : goal.convert_parts-returns-in_err-push_tree-clause-refused
convert_parts-returns-in_err-push_tree-clause-refused g t c =
    if_err c.from_residual-in_err-push_tree.result c.in_err-push_tree.field-0.0 _ c.from_residual-in_err-push_tree.ensures.1 (want_refuses _ _ _ _ _ _ _ _ c.in_err-push_tree.ensures.memory)

-- ---- a part at its place

pub convert_part-convert-requires : goal.convert_part-convert-requires
convert_part-convert-requires g t c =
    let r = g.T.Texts.relations c.args.texts.now in
    let d = document_seen c.args.scope.now.document.now in
    let h = option_map (λ n. n.now) c.args.handed in
    let spot_is : spot_of c.start_at.result.now c.in_ok-place.place.trail.items (option_map (λ n. n.now) c.name_for-name.result) ≡ part_spot (spot_of c.args.scope.now.start.now c.args.trail.now.items h) (map branch_view c.args.branches.now.items) (part_view c.args.part.now) =
    (λ i. spot_of (c.start_at.ensures i) c.in_ok-place.place.trail.items (c.name_for-name.ensures i)) ∙ c.in_ok-place.ensures.place h in
    let e : c.args.levels * 10 + 3 ≡ t = c.decreases in
    let k : c.args.levels * 10 < t = omega (arith, e) in
    λ κs within. (k, (within, subst (λ t. t) (λ i. Begins (kept_view c.args.kept.now).merges (merges_in (tree_at r d c.args.scope.now.depth c.args.levels (sym spot_is i) (schema_of_part c.args.part.now i)))) c.requires))

pub convert_part-returns-clause-entry : goal.convert_part-returns-clause-entry
convert_part-returns-clause-entry g t c =
    let r = g.T.Texts.relations c.args.texts.now in
    let d = document_seen c.args.scope.now.document.now in
    let h = option_map (λ n. n.now) c.args.handed in
    let spot_is : spot_of c.start_at.result.now c.in_ok-place.place.trail.items (option_map (λ n. n.now) c.name_for-name.result) ≡ part_spot (spot_of c.args.scope.now.start.now c.args.trail.now.items h) (map branch_view c.args.branches.now.items) (part_view c.args.part.now) =
    (λ i. spot_of (c.start_at.ensures i) c.in_ok-place.place.trail.items (c.name_for-name.ensures i)) ∙ c.in_ok-place.ensures.place h in
    c.in_ok-tree.ensures.entry ∙ (λ i. entry_at r d c.args.scope.now.depth c.args.levels (spot_is i) (sym (schema_of_part c.args.part.now) i))

pub convert_part-returns-clause-told : goal.convert_part-returns-clause-told
convert_part-returns-clause-told g t c =
    let r = g.T.Texts.relations c.args.texts.now in
    let d = document_seen c.args.scope.now.document.now in
    let h = option_map (λ n. n.now) c.args.handed in
    let spot_is : spot_of c.start_at.result.now c.in_ok-place.place.trail.items (option_map (λ n. n.now) c.name_for-name.result) ≡ part_spot (spot_of c.args.scope.now.start.now c.args.trail.now.items h) (map branch_view c.args.branches.now.items) (part_view c.args.part.now) =
    (λ i. spot_of (c.start_at.ensures i) c.in_ok-place.place.trail.items (c.name_for-name.ensures i)) ∙ c.in_ok-place.ensures.place h in
    subst (λ t. t) (λ i. IsTold r d c.args.scope.now.depth c.args.levels (tree_at r d c.args.scope.now.depth c.args.levels (spot_is i) (sym (schema_of_part c.args.part.now) i)) (kept_view c.args.kept.now) (kept_view c.convert.new.kept)) c.in_ok-tree.ensures.told

pub convert_part-returns-in_err-place-clause-refused : goal.convert_part-returns-in_err-place-clause-refused
convert_part-returns-in_err-place-clause-refused g t c =
    if_err c.from_residual.result c.in_err-place.field-0.0 _ c.from_residual.ensures.1 (want_refuses _ _ _ _ _ _ _ _ c.in_err-place.ensures.memory)

pub convert_part-returns-in_err-tree-clause-refused : goal.convert_part-returns-in_err-tree-clause-refused
convert_part-returns-in_err-tree-clause-refused g t c =
    let r = g.T.Texts.relations c.args.texts.now in
    let d = document_seen c.args.scope.now.document.now in
    let h = option_map (λ n. n.now) c.args.handed in
    let spot_is : spot_of c.start_at.result.now c.in_ok-place.place.trail.items (option_map (λ n. n.now) c.name_for-name.result) ≡ part_spot (spot_of c.args.scope.now.start.now c.args.trail.now.items h) (map branch_view c.args.branches.now.items) (part_view c.args.part.now) =
    (λ i. spot_of (c.start_at.ensures i) c.in_ok-place.place.trail.items (c.name_for-name.ensures i)) ∙ c.in_ok-place.ensures.place h in
    if_err c.from_residual-in_err-tree.result c.in_err-tree.field-0.0 _ c.from_residual-in_err-tree.ensures.1
    (subst (λ t. t) (λ i. Refuses r d c.args.scope.now.depth c.args.levels (g.T.Texts.faults c.args.texts.now) (g.T.Texts.faults c.convert.new.texts) (tree_at r d c.args.scope.now.depth c.args.levels (spot_is i) (sym (schema_of_part c.args.part.now) i)) (fault_view c.in_err-tree.field-0.0)) c.in_err-tree.ensures.refused)

-- ---- a row that merges

pub convert_merged-convert_in_place-requires : goal.convert_merged-convert_in_place-requires
convert_merged-convert_in_place-requires g t c =
    let r = g.T.Texts.relations c.args.texts.now in
    let d = document_seen c.args.scope.now.document.now in
    let most = c.args.scope.now.depth in
    let n = c.args.levels in
    let s = source_view c.args.source.now in
    let h = option_map (λ n. n.now) c.args.handed in
    let o = spot_of c.args.scope.now.start.now c.args.trail.now.items h in
    let fd = finding_view r c.args.finding.now in
    let m = merging r d most n o s fd (c.requires.finding r) c.requires.walk (c.requires.merged r) in
    let next = next_is r d most n o s m (kept_view c.args.kept.now).merges (merge_view c.in_ok-merge.merge.now) (kept_view c.next_merge.new.kept).merges c.requires.begins c.in_ok-merge.ensures.next in
    let ns = merge_notes_view c.in_ok-merge.merge.now.notes.items in
    let u : StandingOf = record { spot = spot_of c.in-Stands.standing.start [] None; schema = schema_view c.in-Stands.standing.schema } in
    let here : stands ns (Some u) ≡ merge_of_row o s m.outcome = ap (λ e. end_view e ns) (sym c.in-Stands.is) ∙ next.here in
    let name_is = c.name_of_standing-name.ensures in
    let left = c.in_ok-keep_merge_notes-in-Stands.ensures.merges ∙ c.in_ok-keep_notes-in-Stands.ensures.merges in
    let e : c.args.levels * 10 + 6 ≡ t = c.decreases in
    let k : c.args.levels * 10 + 5 < t = omega (arith, e) in
    let inner_first : Begins (kept_view c.keep_merge_notes.new.kept).merges (merges_in (tree_at r d most n (spot_of c.in-Stands.standing.start [] (option_map (λ n. n.now) c.name_of_standing-name.result)) u.schema)) =
    subst (λ t. t) (λ i. Begins (sym left i) (merges_in (tree_at r d most n (spot_of c.in-Stands.standing.start [] (sym name_is i)) u.schema)))
    (standing_begins r d most n o s m ns u here (kept_view c.next_merge.new.kept).merges next.behind) in
    λ κs within. (k, (within, inner_first))

pub convert_merged-returns-in_ok-tree-in-Stands-clause-entry : goal.convert_merged-returns-in_ok-tree-in-Stands-clause-entry
convert_merged-returns-in_ok-tree-in-Stands-clause-entry g t c =
    let r = g.T.Texts.relations c.args.texts.now in
    let d = document_seen c.args.scope.now.document.now in
    let most = c.args.scope.now.depth in
    let n = c.args.levels in
    let s = source_view c.args.source.now in
    let h = option_map (λ n. n.now) c.args.handed in
    let o = spot_of c.args.scope.now.start.now c.args.trail.now.items h in
    let fd = finding_view r c.args.finding.now in
    let m = merging r d most n o s fd (c.requires.finding r) c.requires.walk (c.requires.merged r) in
    let next = next_is r d most n o s m (kept_view c.args.kept.now).merges (merge_view c.in_ok-merge.merge.now) (kept_view c.next_merge.new.kept).merges c.requires.begins c.in_ok-merge.ensures.next in
    let ns = merge_notes_view c.in_ok-merge.merge.now.notes.items in
    let u : StandingOf = record { spot = spot_of c.in-Stands.standing.start [] None; schema = schema_view c.in-Stands.standing.schema } in
    let here : stands ns (Some u) ≡ merge_of_row o s m.outcome = ap (λ e. end_view e ns) (sym c.in-Stands.is) ∙ next.here in
    let name_is = c.name_of_standing-name.ensures in
    standing_entry_is r d most n o s m ns u here (tree_view c.in_ok-tree-in-Stands.tree)
    (c.in_ok-tree-in-Stands.ensures.entry ∙ ap (λ (h : Handed). entry_at r d most n (spot_of c.in-Stands.standing.start [] h) u.schema) name_is)

pub convert_merged-returns-in_ok-tree-in-Stands-clause-told : goal.convert_merged-returns-in_ok-tree-in-Stands-clause-told
convert_merged-returns-in_ok-tree-in-Stands-clause-told g t c =
    let r = g.T.Texts.relations c.args.texts.now in
    let d = document_seen c.args.scope.now.document.now in
    let most = c.args.scope.now.depth in
    let n = c.args.levels in
    let s = source_view c.args.source.now in
    let h = option_map (λ n. n.now) c.args.handed in
    let o = spot_of c.args.scope.now.start.now c.args.trail.now.items h in
    let fd = finding_view r c.args.finding.now in
    let m = merging r d most n o s fd (c.requires.finding r) c.requires.walk (c.requires.merged r) in
    let next = next_is r d most n o s m (kept_view c.args.kept.now).merges (merge_view c.in_ok-merge.merge.now) (kept_view c.next_merge.new.kept).merges c.requires.begins c.in_ok-merge.ensures.next in
    let ns = merge_notes_view c.in_ok-merge.merge.now.notes.items in
    let u : StandingOf = record { spot = spot_of c.in-Stands.standing.start [] None; schema = schema_view c.in-Stands.standing.schema } in
    let here : stands ns (Some u) ≡ merge_of_row o s m.outcome = ap (λ e. end_view e ns) (sym c.in-Stands.is) ∙ next.here in
    let name_is = c.name_of_standing-name.ensures in
    let k = kept_view c.keep_merge_notes.new.kept in
    let l = kept_view c.convert_in_place.new.kept in
    let left = c.in_ok-keep_merge_notes-in-Stands.ensures.merges ∙ c.in_ok-keep_notes-in-Stands.ensures.merges in
    standing_told r d most n o s m ns u here fd (tree_view c.in_ok-tree-in-Stands.tree) (kept_view c.args.kept.now) k l (c.requires.finding r) (convert_merged-returns-in_ok-tree-in-Stands-clause-entry g t c)
    (c.in_ok-keep_merge_notes-in-Stands.ensures.notes h ∙ ap (λ ks. ks ++ map (merge_note o) ns) (c.in_ok-keep_notes-in-Stands.ensures.notes h ∙ ap (λ ks. ks ++ map (placed_note o fd.branches) fd.notes) c.in_ok-merge.ensures.notes))
    (c.in_ok-keep_merge_notes-in-Stands.ensures.values ∙ c.in_ok-keep_notes-in-Stands.ensures.values ∙ c.in_ok-merge.ensures.values)
    (c.in_ok-merge.ensures.next ∙ (λ i. end_view (c.in-Stands.is i) ns ∷ sym left i))
    (subst (λ (h : Handed). IsToldOf r d most n o.path s fd.row (tree_view c.in_ok-tree-in-Stands.tree) (tree_at r d most n (spot_of c.in-Stands.standing.start [] h) u.schema) k l) name_is c.in_ok-tree-in-Stands.ensures.told)

pub convert_merged-returns-in_err-keep_notes-in-Stands-clause-refused : goal.convert_merged-returns-in_err-keep_notes-in-Stands-clause-refused
convert_merged-returns-in_err-keep_notes-in-Stands-clause-refused g t c =
    if_err c.from_residual-in_err-keep_notes-in-Stands.result c.in_err-keep_notes-in-Stands.field-0.0 _ c.from_residual-in_err-keep_notes-in-Stands.ensures.1 (want_refuses _ _ _ _ _ _ _ _ c.in_err-keep_notes-in-Stands.ensures.memory)

pub convert_merged-returns-in_err-keep_merge_notes-in-Stands-clause-refused : goal.convert_merged-returns-in_err-keep_merge_notes-in-Stands-clause-refused
convert_merged-returns-in_err-keep_merge_notes-in-Stands-clause-refused g t c =
    if_err c.from_residual-in_err-keep_merge_notes-in-Stands.result c.in_err-keep_merge_notes-in-Stands.field-0.0 _ c.from_residual-in_err-keep_merge_notes-in-Stands.ensures.1 (want_refuses _ _ _ _ _ _ _ _ c.in_err-keep_merge_notes-in-Stands.ensures.memory)

pub convert_merged-returns-in_err-tree-in-Stands-clause-refused : goal.convert_merged-returns-in_err-tree-in-Stands-clause-refused
convert_merged-returns-in_err-tree-in-Stands-clause-refused g t c =
    let r = g.T.Texts.relations c.args.texts.now in
    let d = document_seen c.args.scope.now.document.now in
    let most = c.args.scope.now.depth in
    let n = c.args.levels in
    let s = source_view c.args.source.now in
    let h = option_map (λ n. n.now) c.args.handed in
    let o = spot_of c.args.scope.now.start.now c.args.trail.now.items h in
    let fd = finding_view r c.args.finding.now in
    let m = merging r d most n o s fd (c.requires.finding r) c.requires.walk (c.requires.merged r) in
    let next = next_is r d most n o s m (kept_view c.args.kept.now).merges (merge_view c.in_ok-merge.merge.now) (kept_view c.next_merge.new.kept).merges c.requires.begins c.in_ok-merge.ensures.next in
    let ns = merge_notes_view c.in_ok-merge.merge.now.notes.items in
    let u : StandingOf = record { spot = spot_of c.in-Stands.standing.start [] None; schema = schema_view c.in-Stands.standing.schema } in
    let here : stands ns (Some u) ≡ merge_of_row o s m.outcome = ap (λ e. end_view e ns) (sym c.in-Stands.is) ∙ next.here in
    let name_is = c.name_of_standing-name.ensures in
    if_err c.from_residual-in_err-tree-in-Stands.result c.in_err-tree-in-Stands.field-0.0 _ c.from_residual-in_err-tree-in-Stands.ensures.1
    (standing_refuses r d most n o s m ns u here _ _ _
    (subst (λ (h : Handed). RefusesOf r d most n o.path (g.T.Texts.faults c.args.texts.now) (g.T.Texts.faults c.convert_in_place.new.texts) (tree_at r d most n (spot_of c.in-Stands.standing.start [] h) u.schema) (fault_view c.in_err-tree-in-Stands.field-0.0)) name_is c.in_err-tree-in-Stands.ensures.refused))

pub convert_merged-returns-in_err-merge-clause-refused : goal.convert_merged-returns-in_err-merge-clause-refused
convert_merged-returns-in_err-merge-clause-refused g t c =
    if_err c.from_residual.result c.in_err-merge.field-0.0 _ c.from_residual.ensures.1 (want_refuses _ _ _ _ _ _ _ _ c.in_err-merge.ensures.memory)

pub convert_merged-returns-in-Deep-clause-refused : goal.convert_merged-returns-in-Deep-clause-refused
convert_merged-returns-in-Deep-clause-refused g t c =
    let r = g.T.Texts.relations c.args.texts.now in
    let d = document_seen c.args.scope.now.document.now in
    let most = c.args.scope.now.depth in
    let n = c.args.levels in
    let s = source_view c.args.source.now in
    let h = option_map (λ n. n.now) c.args.handed in
    let o = spot_of c.args.scope.now.start.now c.args.trail.now.items h in
    let fd = finding_view r c.args.finding.now in
    let m = merging r d most n o s fd (c.requires.finding r) c.requires.walk (c.requires.merged r) in
    let next = next_is r d most n o s m (kept_view c.args.kept.now).merges (merge_view c.in_ok-merge.merge.now) (kept_view c.next_merge.new.kept).merges c.requires.begins c.in_ok-merge.ensures.next in
    merge_refuses r d most n o s m _ _ _ (c.refused_merge.ensures r d most n h s m.outcome (merge_notes_view c.in_ok-merge.merge.now.notes.items) next.here)

pub convert_merged-returns-in-Unsupported-clause-refused : goal.convert_merged-returns-in-Unsupported-clause-refused
convert_merged-returns-in-Unsupported-clause-refused g t c =
    let r = g.T.Texts.relations c.args.texts.now in
    let d = document_seen c.args.scope.now.document.now in
    let most = c.args.scope.now.depth in
    let n = c.args.levels in
    let s = source_view c.args.source.now in
    let h = option_map (λ n. n.now) c.args.handed in
    let o = spot_of c.args.scope.now.start.now c.args.trail.now.items h in
    let fd = finding_view r c.args.finding.now in
    let m = merging r d most n o s fd (c.requires.finding r) c.requires.walk (c.requires.merged r) in
    let next = next_is r d most n o s m (kept_view c.args.kept.now).merges (merge_view c.in_ok-merge.merge.now) (kept_view c.next_merge.new.kept).merges c.requires.begins c.in_ok-merge.ensures.next in
    merge_refuses r d most n o s m _ _ _ (c.refused_merge-in-Unsupported.ensures r d most n h s m.outcome (merge_notes_view c.in_ok-merge.merge.now.notes.items) next.here)

-- ---- what stands in its place, and what the schema states itself

pub convert_in_place-convert_standing-requires : goal.convert_in_place-convert_standing-requires
convert_in_place-convert_standing-requires g t c =
    let e : c.args.levels * 10 + 5 ≡ t = c.decreases in
    let k : c.args.levels * 10 + 3 < t = omega (arith, e) in
    λ κs within. (k, (within, c.requires))

pub convert_in_place-returns-clause-told : goal.convert_in_place-returns-clause-told
convert_in_place-returns-clause-told g t c =
    let r = g.T.Texts.relations c.args.texts.now in
    let d = document_seen c.args.scope.now.document.now in
    told_of_row r d c.args.scope.now.depth c.args.levels (path_by c.args.scope.now.start.now c.args.trail.now.items) (source_view c.args.source.now) c.args.row.now (tree_view c.in_ok-tree.tree) _
    (kept_view c.args.kept.now) (kept_view c.convert_standing.new.kept) (kept_view c.keep_unless.new.kept) (g.T.Texts.relations c.convert_standing.new.texts) c.is_some-had.result
    c.in_ok-tree.ensures.keeps (had_seen c.args.kept.now.values.unread c.is_some-had.result c.is_some-had.ensures)
    c.in_ok-tree.ensures.told c.in_ok-keep_unless.ensures.notes c.in_ok-keep_unless.ensures.merges c.in_ok-keep_unless.ensures.values

pub convert_in_place-returns-in_err-tree-clause-refused : goal.convert_in_place-returns-in_err-tree-clause-refused
convert_in_place-returns-in_err-tree-clause-refused g t c =
    if_err c.from_residual.result c.in_err-tree.field-0.0 _ c.from_residual.ensures.1 (at_parts c.in_err-tree.ensures.refused)

pub convert_in_place-returns-in_err-keep_unless-clause-refused : goal.convert_in_place-returns-in_err-keep_unless-clause-refused
convert_in_place-returns-in_err-keep_unless-clause-refused g t c =
    if_err c.from_residual-in_err-keep_unless.result c.in_err-keep_unless.field-0.0 _ c.from_residual-in_err-keep_unless.ensures.1
    (at_schema (none_from _ _ _ _ _ c.in_ok-tree.ensures.counts c.in_err-keep_unless.ensures.refused))

pub convert_standing-convert-requires : goal.convert_standing-convert-requires
convert_standing-convert-requires g t c =
    let r = g.T.Texts.relations c.args.texts.now in
    let d = document_seen c.args.scope.now.document.now in
    let h = option_map (λ n. n.now) c.args.handed in
    let s = schema_view c.args.standing.now.schema in
    let e : c.args.levels * 10 + 3 ≡ t = c.decreases in
    let k : c.args.levels * 10 < t = omega (arith, e) in
    λ κs within. (k, (within, subst (λ (ks : List Steps). Begins (kept_view c.args.kept.now).merges (merges_in (tree_at r d c.args.scope.now.depth c.args.levels (spot_of c.args.standing.now.start ks h) s))) (sym c.new-trail.ensures.items) c.requires))

pub convert_standing-returns-clause-entry : goal.convert_standing-returns-clause-entry
convert_standing-returns-clause-entry g t c =
    let r = g.T.Texts.relations c.args.texts.now in
    let d = document_seen c.args.scope.now.document.now in
    let h = option_map (λ n. n.now) c.args.handed in
    let s = schema_view c.args.standing.now.schema in
    c.in_ok-tree.ensures.entry ∙ ap (λ (ks : List Steps). entry_at r d c.args.scope.now.depth c.args.levels (spot_of c.args.standing.now.start ks h) s) c.new-trail.ensures.items

pub convert_standing-returns-clause-told : goal.convert_standing-returns-clause-told
convert_standing-returns-clause-told g t c =
    let r = g.T.Texts.relations c.args.texts.now in
    let d = document_seen c.args.scope.now.document.now in
    let h = option_map (λ n. n.now) c.args.handed in
    let s = schema_view c.args.standing.now.schema in
    subst (λ (ks : List Steps). IsTold r d c.args.scope.now.depth c.args.levels (tree_at r d c.args.scope.now.depth c.args.levels (spot_of c.args.standing.now.start ks h) s) (kept_view c.args.kept.now) (kept_view c.convert.new.kept))
    c.new-trail.ensures.items c.in_ok-tree.ensures.told

pub convert_standing-returns-in_err-tree-clause-refused : goal.convert_standing-returns-in_err-tree-clause-refused
convert_standing-returns-in_err-tree-clause-refused g t c =
    let r = g.T.Texts.relations c.args.texts.now in
    let d = document_seen c.args.scope.now.document.now in
    let h = option_map (λ n. n.now) c.args.handed in
    let s = schema_view c.args.standing.now.schema in
    if_err c.from_residual.result c.in_err-tree.field-0.0 _ c.from_residual.ensures.1
    (subst (λ (ks : List Steps). Refuses r d c.args.scope.now.depth c.args.levels (g.T.Texts.faults c.args.texts.now) (g.T.Texts.faults c.convert.new.texts) (tree_at r d c.args.scope.now.depth c.args.levels (spot_of c.args.standing.now.start ks h) s) (fault_view c.in_err-tree.field-0.0))
    c.new-trail.ensures.items c.in_err-tree.ensures.refused)
