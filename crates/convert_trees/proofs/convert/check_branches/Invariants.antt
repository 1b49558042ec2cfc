use Rattle.std.proofs.Common.{◌≡◌, drop, map}
use Rattle.schema_defs.specs.Texts.{Relations}
use Rattle.schema_defs.specs.Schema.{Document}
use Rattle.convert_defs.specs.Convert.{Handed}
use Rattle.convert_walks.specs.Tree.{deep_branches}
use Rattle.merged_rows.specs.Starts.{spot_of}
use Rattle.row_findings.specs.View.{branch_view}
use Rattle.convert_trees.proofs.convert.check_branches.Given as goal

abbrev pub invariant-loop-branch : goal.invariant-loop-branch
invariant-loop-branch l = (r : Relations) (d : Document) (h : Handed)
    → deep_branches r d l.scope.depth (spot_of l.scope.start.now l.trail.items h) (map branch_view (drop l.branch-index l.branch-items)) ≡ deep_branches r d l.scope.depth (spot_of l.scope.start.now l.trail.items h) (map branch_view l.branch-items)
