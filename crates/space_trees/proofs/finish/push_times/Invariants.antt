use Rattle.std.proofs.Common.{◌≡◌, ◌++◌, map}
use Rattle.entry_types.specs.View.{id_view}
use Rattle.space_trees.specs.Parts.{times}
use Rattle.space_trees.proofs.finish.push_times.Given as goal

abbrev pub invariant-loop-turn : goal.invariant-loop-turn
invariant-loop-turn l = map id_view l.ids.items ≡ map id_view l.fn.ids.items ++ times l.turn (id_view l.id)
