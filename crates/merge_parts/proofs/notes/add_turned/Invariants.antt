use Rattle.std.proofs.Common.{◌≡◌, ◌++◌, drop}
use Rattle.merge_defs.specs.Outcome.{turned}
use Rattle.merge_parts.specs.View.{notes_view}
use Rattle.merge_parts.proofs.notes.add_turned.Given as goal

abbrev pub invariant-loop-one : goal.invariant-loop-one
invariant-loop-one l = notes_view l.notes.items ++ turned (notes_view (drop l.one-index l.one-items)) ≡ notes_view l.fn.notes.items ++ turned (notes_view l.one-items)
