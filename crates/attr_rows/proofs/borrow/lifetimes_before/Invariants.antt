use Rattle.std.proofs.Common.{◌≡◌, ◌++◌, length, map}
use Rattle.token_trees.specs.View.{trees}
use Rattle.syntax_trees.specs.View.{lifetime_view}
use Rattle.attr_defs.specs.Borrows.{lifetimes_before}
use Rattle.attr_rows.proofs.borrow.lifetimes_before.Given as goal

abbrev pub invariant-list : goal.invariant-list
invariant-list l = map lifetime_view l.found.items ++ lifetimes_before (trees l.left) ≡ lifetimes_before (trees l.tokens)

abbrev pub decreases-list : goal.decreases-list
decreases-list l = length l.left
