use Rattle.std.proofs.Common.{◌≡◌, ◌+◌, ◌*◌, ◌++◌, map, drop}
use Rattle.schema_defs.specs.Texts.{Relations}
use Rattle.schema_tree.specs.Document.{view as document_seen}
use Rattle.convert_defs.specs.Convert.{Handed}
use Rattle.merged_rows.specs.Starts.{spot_of}
use Rattle.row_findings.specs.View.{branch_view}
use Rattle.document_merges.specs.Listed.{listed_view}
use Rattle.document_merges.specs.Merges.{merges_view}
use Rattle.document_merges.proofs.Turns.{merges_of_parts}
use Rattle.document_merges.proofs.gather.+gather.Given as goal

abbrev pub decreases-gather : goal.decreases-gather
decreases-gather l = l.levels * 10

abbrev pub decreases-gather_part : goal.decreases-gather_part
decreases-gather_part l = l.levels * 10 + 2

abbrev pub decreases-gather_parts : goal.decreases-gather_parts
decreases-gather_parts l = l.levels * 10 + 3

abbrev pub decreases-gather_row : goal.decreases-gather_row
decreases-gather_row l = l.levels * 10 + 4

abbrev pub decreases-gather_inside : goal.decreases-gather_inside
decreases-gather_inside l = l.levels * 10 + 1

abbrev pub decreases-gather_standing : goal.decreases-gather_standing
decreases-gather_standing l = l.levels * 10 + 2

abbrev pub decreases-gather_merged : goal.decreases-gather_merged
decreases-gather_merged l = l.levels * 10 + 3

abbrev pub decreases-gather_found : goal.decreases-gather_found
decreases-gather_found l = l.levels * 10 + 5

abbrev pub invariant-gather_parts-loop-listed : goal.invariant-gather_parts-loop-listed
invariant-gather_parts-loop-listed l =
    (r : Relations) (h : Handed)
    → merges_view l.merges.items ++ merges_of_parts r (document_seen l.scope.document.now) l.scope.depth l.levels (spot_of l.scope.start.now l.trail.items h) (map branch_view l.branches.items) (listed_view (drop l.listed-index l.parts))
    ≡ merges_view l.initial.merges.items ++ merges_of_parts r (document_seen l.scope.document.now) l.scope.depth l.levels (spot_of l.scope.start.now l.trail.items h) (map branch_view l.branches.items) (listed_view l.parts)
