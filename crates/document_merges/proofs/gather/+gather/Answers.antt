use Rattle.std.proofs.Common.{List, [], ◌++◌, None, Some, map, refl, sym, ap, ◌∙◌, arith, option_map}
use Rattle.schema_types.specs.View.{schema_view}
use Rattle.schema_tree.specs.Document.{view as document_seen}
use Rattle.convert_walks.specs.Merging.{merged_at}
use Rattle.convert_walks.specs.Tree.{standing_tree, tree_at}
use Rattle.merge_defs.specs.Outcome.{depth, unsupported}
use Rattle.merge_parts.specs.declared.fault.MergeFault.TheVariants.{Depth, Unsupported}
use Rattle.merge_parts.specs.View.{notes_view, unsupported_view}
use Rattle.merged_rows.specs.Rows.{handed_on, standing_view}
use Rattle.merged_rows.specs.Starts.{handed_to, spot_of}
use Rattle.row_findings.specs.declared.part.Steps as code
use Rattle.row_findings.specs.Given.{source_view}
use Rattle.row_findings.specs.View.{branch_view, finding_view, part_view, row_view}
use Rattle.document_merges.specs.declared.merge.Merge.{Merge}
use Rattle.document_merges.specs.Listed.{listed_view}
use Rattle.document_merges.specs.Merges.{merges_in, merges_view}
use Rattle.document_merges.proofs.Ends.{then_ok}
use Rattle.document_merges.proofs.Found.{deep_adds, found_adds, spent_adds, merged_adds, parts_add}
use Rattle.document_merges.proofs.Handed.{same_merge}
use Rattle.document_merges.proofs.Kept.{by_fault, from_none, kept_adds, one_kept, refused_adds}
use Rattle.document_merges.proofs.Turns.{merges_of_parts, part_end, part_turn, schema_of_part}
use Rattle.document_merges.proofs.gather.+gather.Goals as goal

-- ---- by so many levels

pub gather-returns-then-levels-eq0-clause-found : goal.gather-returns-then-levels-eq0-clause-found
gather-returns-then-levels-eq0-clause-found t c = λ r h.
    spent_adds r (document_seen c.args.scope.now.document.now) c.args.scope.now.depth c.args.levels (omega (arith, c.if-levels-eq0.true))
    (spot_of c.args.scope.now.start.now c.args.trail.now.items h) (source_view c.args.source.now) _

pub gather-returns-then-is_deep-clause-found : goal.gather-returns-then-is_deep-clause-found
gather-returns-then-is_deep-clause-found t c = λ r h.
    deep_adds r (document_seen c.args.scope.now.document.now) c.args.scope.now.depth c.args.levels (λ k. absurd (omega (arith, k, c.if-levels-eq0.false)))
    (spot_of c.args.scope.now.start.now c.args.trail.now.items h) (source_view c.args.source.now) _ (sym c.is_deep.ensures ∙ c.if-is_deep.true)

pub gather-returns-clause-found : goal.gather-returns-clause-found
gather-returns-clause-found t c =
    then_ok c.gather_found.result _ _ (λ k r h.
    found_adds r (document_seen c.args.scope.now.document.now) c.args.scope.now.depth c.args.levels (λ k. absurd (omega (arith, k, c.if-levels-eq0.false)))
    (spot_of c.args.scope.now.start.now c.args.trail.now.items h) (source_view c.args.source.now) _ _ (finding_view r c.in_ok-found.found) (c.in_ok-found.ensures r)
    (sym c.is_deep.ensures ∙ c.if-is_deep.false) (k r h)) c.gather_found.ensures.found

-- ---- by what was found

pub gather_found-returns-in-Some-clause-found : goal.gather_found-returns-in-Some-clause-found
gather_found-returns-in-Some-clause-found t c =
    then_ok c.gather_merged.result _ _ (λ k r h.
    merged_adds r (document_seen c.args.scope.now.document.now) c.args.scope.now.depth c.args.levels (spot_of c.args.scope.now.start.now c.args.trail.now.items h)
    (source_view c.args.source.now) (map branch_view c.args.found.now.branches.items) (row_view r c.args.found.now.row) _ _ (map part_view c.in-Some.parts.now.items) (c.in-Some.ensures r) (k r h)) c.gather_merged.ensures.found

pub gather_found-returns-in-None-clause-found : goal.gather_found-returns-in-None-clause-found
gather_found-returns-in-None-clause-found t c =
    then_ok c.gather_row.result _ _ (λ k r h.
    parts_add r (document_seen c.args.scope.now.document.now) c.args.scope.now.depth c.args.levels (spot_of c.args.scope.now.start.now c.args.trail.now.items h)
    (source_view c.args.source.now) (map branch_view c.args.found.now.branches.items) (row_view r c.args.found.now.row) _ _ (c.in-None.ensures r) (k r h)) c.gather_row.ensures.found

-- ---- a row that doesn't merge

pub gather_row-returns-clause-found : goal.gather_row-returns-clause-found
gather_row-returns-clause-found t c = λ r h.
    c.in_ok-gather_parts.ensures.found r h
    ∙ ap (λ ps. merges_view c.args.merges.now.items ++ merges_of_parts r (document_seen c.args.scope.now.document.now) c.args.scope.now.depth c.args.levels
    (spot_of c.args.scope.now.start.now c.args.trail.now.items h) (map branch_view c.args.found.now.branches.items) ps) (ap listed_view c.deref.ensures.value ∙ c.in_ok-parts.ensures r)

pub gather_parts-loop-listed-init : goal.gather_parts-loop-listed-init
gather_parts-loop-listed-init t c = λ r h. refl

pub gather_parts-loop-listed-preserved : goal.gather_parts-loop-listed-preserved
gather_parts-loop-listed-preserved t c = λ r h.
    part_turn r (document_seen c.args.scope.now.document.now) c.args.scope.now.depth c.args.levels (spot_of c.args.scope.now.start.now c.args.trail.now.items h)
    (map branch_view c.args.branches.now.items) c.args.parts.now c.loop-listed.listed-index c.listed-item.result _ _ _ c.loop-listed-test.true c.listed-item.is (c.in_ok-gather_part.ensures.found r h) (c.loop-listed.invariant r h)

pub gather_parts-returns-clause-found : goal.gather_parts-returns-clause-found
gather_parts-returns-clause-found t c = λ r h.
    part_end r (document_seen c.args.scope.now.document.now) c.args.scope.now.depth c.args.levels (spot_of c.args.scope.now.start.now c.args.trail.now.items h)
    (map branch_view c.args.branches.now.items) c.args.parts.now c.loop-listed.listed-index _ _ c.loop-listed-test.false (c.loop-listed.invariant r h)

pub gather_part-returns-clause-found : goal.gather_part-returns-clause-found
gather_part-returns-clause-found t c = λ r h.
    c.in_ok-gather.ensures.found r (handed_to h (part_view c.args.part.now))
    ∙ (λ i. merges_view c.args.merges.now.items ++ merges_in (tree_at r (document_seen c.args.scope.now.document.now) c.args.scope.now.depth c.args.levels
    (spot_of (c.start_at.ensures i) c.in_ok-place.place.trail.items (handed_to h (part_view c.args.part.now))) (source_view c.args.part.now.source)))
    ∙ (λ i. merges_view c.args.merges.now.items ++ merges_in (tree_at r (document_seen c.args.scope.now.document.now) c.args.scope.now.depth c.args.levels (c.in_ok-place.ensures h i) (sym (schema_of_part c.args.part.now) i)))

-- ---- a row that merges

pub gather_merged-returns-in-Ok-clause-found : goal.gather_merged-returns-in-Ok-clause-found
gather_merged-returns-in-Ok-clause-found t c =
    let d = document_seen c.args.scope.now.document.now in
    let s = source_view c.args.source.now in
    let ps = map part_view c.args.parts.now.items in
    then_ok c.gather_standing.result _ _ (λ k r h.
    k r h (merged_at d c.args.scope.now.depth c.args.levels (spot_of c.args.scope.now.start.now c.args.trail.now.items h) s ps)
    (from_none c.new-notes.result.items (notes_view c.merge_row.new.notes.items) _ _ (option_map schema_view c.in-Ok.found) c.new-notes.ensures.items
    (sym (same_merge d c.args.scope.now.depth c.args.levels (spot_of c.args.scope.now.start.now c.args.trail.now.items None) h s ps)) c.in-Ok.ensures.found)) c.gather_standing.ensures.found

pub gather_merged-returns-in-Err-Depth-clause-found : goal.gather_merged-returns-in-Err-Depth-clause-found
gather_merged-returns-in-Err-Depth-clause-found t c =
    let d = document_seen c.args.scope.now.document.now in
    let s = source_view c.args.source.now in
    let ps = map part_view c.args.parts.now.items in
    then_ok c.push_refused.result _ _ (λ k r h.
    refused_adds (spot_of c.args.scope.now.start.now c.args.trail.now.items h) s (depth c.in-Err-Depth.walk) (merged_at d c.args.scope.now.depth c.args.levels (spot_of c.args.scope.now.start.now c.args.trail.now.items h) s ps) _
    (λ o. standing_tree r d c.args.scope.now.depth (λ o s. tree_at r d c.args.scope.now.depth c.args.levels o s) o) _ _
    (same_merge d c.args.scope.now.depth c.args.levels (spot_of c.args.scope.now.start.now c.args.trail.now.items None) h s ps ∙ by_fault _ (Depth c.in-Err-Depth.walk) (depth c.in-Err-Depth.walk) _ c.in-Err-Depth.field-0-is refl c.in-Err-Depth.ensures.refused) refl refl k) c.push_refused.ensures.found

pub gather_merged-returns-in-Err-Unsupported-clause-found : goal.gather_merged-returns-in-Err-Unsupported-clause-found
gather_merged-returns-in-Err-Unsupported-clause-found t c =
    let d = document_seen c.args.scope.now.document.now in
    let s = source_view c.args.source.now in
    let ps = map part_view c.args.parts.now.items in
    then_ok c.push_refused-in-Err-Unsupported.result _ _ (λ k r h.
    refused_adds (spot_of c.args.scope.now.start.now c.args.trail.now.items h) s (unsupported (unsupported_view c.in-Err-Unsupported.kind)) (merged_at d c.args.scope.now.depth c.args.levels (spot_of c.args.scope.now.start.now c.args.trail.now.items h) s ps) _
    (λ o. standing_tree r d c.args.scope.now.depth (λ o s. tree_at r d c.args.scope.now.depth c.args.levels o s) o) _ _
    (same_merge d c.args.scope.now.depth c.args.levels (spot_of c.args.scope.now.start.now c.args.trail.now.items None) h s ps ∙ by_fault _ (Unsupported c.in-Err-Unsupported.kind) (unsupported (unsupported_view c.in-Err-Unsupported.kind)) _ c.in-Err-Unsupported.field-0-is refl c.in-Err-Unsupported.ensures.refused) refl refl k) c.push_refused-in-Err-Unsupported.ensures.found

pub gather_standing-returns-clause-found : goal.gather_standing-returns-clause-found
gather_standing-returns-clause-found t c = λ r h o told.
    let d = document_seen c.args.scope.now.document.now in
    let s = source_view c.args.source.now in
    kept_adds (spot_of c.args.scope.now.start.now c.args.trail.now.items h) s (notes_view c.args.notes.items) (option_map schema_view c.args.found) o (standing_view h s c.in_ok-standing.standing)
    (λ t. standing_tree r d c.args.scope.now.depth (λ o s. tree_at r d c.args.scope.now.depth c.args.levels o s) t) _ _ _ _ _
    told (c.in_ok-standing.ensures h [] (notes_view c.args.notes.items) o told) refl (one_kept _ _ _ c.in_ok-push.ensures.items)
    (c.in_ok-gather_inside.ensures.found r h s
    ∙ ap (λ (ms : List Merge). merges_view ms ++ merges_in (standing_tree r d c.args.scope.now.depth (λ o s. tree_at r d c.args.scope.now.depth c.args.levels o s) (Some (standing_view h s c.in_ok-standing.standing)))) c.new-inside.ensures.items)
    c.in_ok-push_all.ensures.found

pub gather_inside-returns-clause-found : goal.gather_inside-returns-clause-found
gather_inside-returns-clause-found t c =
    then_ok c.gather.result _ _ (λ k r h s.
    k r (handed_on h s (schema_view c.args.standing.now.schema))
    ∙ ap (λ (ks : List code.Steps). merges_view c.args.merges.now.items ++ merges_in (tree_at r (document_seen c.args.scope.now.document.now) c.args.scope.now.depth c.args.levels
    (spot_of c.args.standing.now.start ks (handed_on h s (schema_view c.args.standing.now.schema))) (schema_view c.args.standing.now.schema))) c.new-trail.ensures.items) c.gather.ensures.found
