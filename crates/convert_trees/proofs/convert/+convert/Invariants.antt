use Rattle.std.proofs.Common.{◌≡◌, ◌≤◌, ◌+◌, ◌*◌, map, drop}
use Rattle.std.specs.Prelude.{option_map, ◌++◌}
use Rattle.schema_tree.specs.Document.{view as document_seen}
use Rattle.tree_types.specs.View.{tree_view}
use Rattle.merged_rows.specs.Starts.{spot_of}
use Rattle.row_findings.specs.View.{branch_view}
use Rattle.document_merges.specs.Listed.{listed_view}
use Rattle.convert_trees.specs.Keeping.{kept_view}
use Rattle.convert_trees.proofs.Parts.{all_nodes, part_entry}
use Rattle.convert_trees.proofs.Telling.{Passed}
use Rattle.convert_trees.proofs.convert.+convert.Given as goal

abbrev pub decreases-convert : goal.decreases-convert
decreases-convert g l = l.levels * 10

abbrev pub decreases-convert_found : goal.decreases-convert_found
decreases-convert_found g l = l.levels * 10 + 7

abbrev pub decreases-convert_plain : goal.decreases-convert_plain
decreases-convert_plain g l = l.levels * 10 + 6

abbrev pub decreases-convert_row : goal.decreases-convert_row
decreases-convert_row g l = l.levels * 10 + 5

abbrev pub decreases-convert_parts : goal.decreases-convert_parts
decreases-convert_parts g l = l.levels * 10 + 4

abbrev pub decreases-convert_part : goal.decreases-convert_part
decreases-convert_part g l = l.levels * 10 + 3

abbrev pub decreases-convert_merged : goal.decreases-convert_merged
decreases-convert_merged g l = l.levels * 10 + 6

abbrev pub decreases-convert_in_place : goal.decreases-convert_in_place
decreases-convert_in_place g l = l.levels * 10 + 5

abbrev pub decreases-convert_standing : goal.decreases-convert_standing
decreases-convert_standing g l = l.levels * 10 + 3

abbrev pub invariant-convert_parts-loop-listed : goal.invariant-convert_parts-loop-listed
invariant-convert_parts-loop-listed g l = record {
  entries : map tree_view l.trees.items ++ map (part_entry (g.T.Texts.relations l.initial.texts) (document_seen l.scope.document.now) l.scope.depth l.levels (spot_of l.scope.start.now l.trail.items (option_map (λ n. n.now) l.handed)) (map branch_view l.branches.items)) (listed_view (drop l.listed-index l.parts))
      ≡ map (part_entry (g.T.Texts.relations l.initial.texts) (document_seen l.scope.document.now) l.scope.depth l.levels (spot_of l.scope.start.now l.trail.items (option_map (λ n. n.now) l.handed)) (map branch_view l.branches.items)) (listed_view l.parts);
  told : Passed (g.T.Texts.relations l.initial.texts) (document_seen l.scope.document.now) l.scope.depth l.levels (all_nodes (g.T.Texts.relations l.initial.texts) (document_seen l.scope.document.now) l.scope.depth l.levels (spot_of l.scope.start.now l.trail.items (option_map (λ n. n.now) l.handed)) (map branch_view l.branches.items) (listed_view l.parts))
      (all_nodes (g.T.Texts.relations l.initial.texts) (document_seen l.scope.document.now) l.scope.depth l.levels (spot_of l.scope.start.now l.trail.items (option_map (λ n. n.now) l.handed)) (map branch_view l.branches.items) (listed_view (drop l.listed-index l.parts))) (kept_view l.initial.kept) (kept_view l.kept);
  keeps : g.T.Texts.relations l.texts ≡ g.T.Texts.relations l.initial.texts;
  counts : g.T.Texts.faults l.initial.texts ≤ g.T.Texts.faults l.texts;
}
