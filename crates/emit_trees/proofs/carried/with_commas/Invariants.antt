use Rattle.std.proofs.Common.{◌≡◌, map}
use Rattle.token_trees.specs.View.{stream}
use Rattle.emit_defs.specs.Trees.{with_commas}
use Rattle.emit_trees.specs.CarriedView.{carried_view, has_any}
use Rattle.emit_trees.proofs.carried.with_commas.Given as goal

-- the metas so far are told, and whether there is one is known
abbrev pub invariant-loop-meta : goal.invariant-loop-meta
invariant-loop-meta l = record { tokens : stream l.tokens ≡ with_commas (map carried_view l.yielded); between : l.between ≡ has_any (map carried_view l.yielded) }
