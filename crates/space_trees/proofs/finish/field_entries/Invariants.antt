use Rattle.std.proofs.Common.{◌≡◌, ◌++◌, map, drop}
use Rattle.entry_types.specs.View.{id_view, field_view}
use Rattle.tree_types.specs.View.{parts_of}
use Rattle.space_trees.specs.Parts.{fields_at}
use Rattle.space_trees.proofs.finish.field_entries.Given as goal

abbrev pub invariant-loop-part : goal.invariant-loop-part
invariant-loop-part l =
    map field_view l.fields.items ++ fields_at (parts_of (drop l.part-index l.parts.items)) (map id_view l.left) ≡ fields_at (parts_of l.parts.items) (map id_view l.ids.items)
