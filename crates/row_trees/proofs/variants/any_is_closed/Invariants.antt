use Rattle.std.proofs.Common.{◌≡◌, drop}
use Rattle.std.specs.List.{list_any}
use Rattle.row_trees.specs.Build.{is_closed_held}
use Rattle.row_trees.specs.Held.{bodies_view}
use Rattle.row_trees.proofs.variants.any_is_closed.Given as goal

abbrev pub invariant-loop-body : goal.invariant-loop-body
invariant-loop-body l = list_any (λ b. is_closed_held b.1) (bodies_view l.body-items) ≡ list_any (λ b. is_closed_held b.1) (bodies_view (drop l.body-index l.body-items))
