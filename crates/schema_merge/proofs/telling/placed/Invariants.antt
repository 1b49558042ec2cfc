use Rattle.std.proofs.Common.{◌≡◌, map, take}
use Rattle.merge_parts.specs.View.{notes_view}
use Rattle.schema_merge.specs.View.{placed_at, placed_view}
use Rattle.schema_merge.proofs.telling.placed.Given as goal

abbrev pub invariant-loop-note : goal.invariant-loop-note
invariant-loop-note l = map placed_view l.placed.items ≡ placed_at l.place (notes_view (take l.note-index l.note-items))
