use Rattle.std.proofs.Common.{◌≡◌, List, ◌++◌, map}
use Rattle.syntax_trees.specs.View.{lifetime_view}
use Rattle.syntax_trees.specs.declared.tree.Lifetime.{Lifetime}
use Rattle.attr_parts.specs.Lifetimes.{lifetimes}
use Rattle.attr_rows.proofs.borrow.copy_lifetimes.Given as goal

abbrev pub invariant-loop-lifetime : goal.invariant-loop-lifetime
invariant-loop-lifetime l = (done : List Lifetime) × (l.from.keys ≡ done ++ l.lifetime-iterator) × (lifetimes l.copy ≡ map lifetime_view done)
