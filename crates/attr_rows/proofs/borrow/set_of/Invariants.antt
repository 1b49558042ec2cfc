use Rattle.std.proofs.Common.{◌≡◌, map, drop, []}
use Rattle.syntax_trees.specs.View.{lifetime_view}
use Rattle.attr_parts.specs.Lifetimes.{lifetimes, added}
use Rattle.attr_rows.proofs.borrow.set_of.Given as goal

abbrev pub invariant-loop-lifetime : goal.invariant-loop-lifetime
invariant-loop-lifetime l = added (lifetimes l.set) (map lifetime_view (drop l.lifetime-index l.all)) ≡ added [] (map lifetime_view l.all)
