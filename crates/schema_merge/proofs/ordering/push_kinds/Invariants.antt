use Rattle.std.proofs.Common.{◌≡◌, ◌++◌, drop, map}
use Rattle.merge_parts.specs.View.{kind_view, notes_view}
use Rattle.schema_merge.specs.Ordered.{of_kinds}
use Rattle.schema_merge.proofs.ordering.push_kinds.Given as goal

abbrev pub invariant-loop-kind : goal.invariant-loop-kind
invariant-loop-kind l = notes_view l.ordered.items ++ of_kinds (notes_view l.notes.items) (map kind_view (drop l.kind-index l.kinds)) ≡ of_kinds (notes_view l.notes.items) (map kind_view l.kinds)
