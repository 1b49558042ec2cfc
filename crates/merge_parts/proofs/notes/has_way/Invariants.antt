use Rattle.std.proofs.Common.{◌≡◌, drop}
use Rattle.merge_defs.specs.Outcome.{has_way}
use Rattle.merge_parts.specs.View.{notes_view, way_view}
use Rattle.merge_parts.proofs.notes.has_way.Given as goal

abbrev pub invariant-loop-one : goal.invariant-loop-one
invariant-loop-one l = has_way (way_view l.way) (notes_view l.one-items) ≡ has_way (way_view l.way) (notes_view (drop l.one-index l.one-items))
