use Rattle.std.proofs.Common.{◌≡◌, map, drop}
use Rattle.token_trees.specs.View.{trees}
use Rattle.attr_defs.specs.Rows.{line_of}
use Rattle.attr_rows.specs.OwnerView.{line_view}
use Rattle.attr_rows.proofs.line.find.Given as goal

abbrev pub invariant-loop-line : goal.invariant-loop-line
invariant-loop-line l = line_of (map line_view l.lines) (trees l.path) ≡ line_of (map line_view (drop l.line-index l.lines)) (trees l.path)
