use Rattle.std.proofs.Common.{◌≡◌, drop}
use Rattle.merge_parts.specs.View.{kind_view, notes_view, way_view}
use Rattle.schema_merge.specs.Ordered.{is_noted}
use Rattle.schema_merge.proofs.ordering.is_noted.Given as goal

abbrev pub invariant-loop-note : goal.invariant-loop-note
invariant-loop-note l = is_noted (notes_view l.note-items) (way_view l.way) (kind_view l.kind) ≡ is_noted (notes_view (drop l.note-index l.note-items)) (way_view l.way) (kind_view l.kind)
