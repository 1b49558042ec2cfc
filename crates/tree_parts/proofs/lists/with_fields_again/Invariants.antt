use Rattle.std.proofs.Common.{◌≡◌, map, take}
use Rattle.entry_defs.specs.Entry.{Fields}
use Rattle.tree_types.specs.View.{fields_view, parts_of}
use Rattle.tree_parts.specs.Lists.{fields_again}
use Rattle.tree_parts.proofs.lists.with_fields_again.Given as goal

abbrev pub invariant-loop-place : goal.invariant-loop-place
invariant-loop-place l = (more : Fields) → fields_view (parts_of l.fields.items) more ≡ fields_view (parts_of l.fn.fields.items) (fields_again (map (λ n. n.now) (take l.place l.names.items)) more)
