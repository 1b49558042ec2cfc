use Rattle.std.proofs.Common.{◌≡◌}
use Rattle.entry_defs.specs.Entry.{Entries}
use Rattle.tree_types.specs.View.{places_then, parts_of}
use Rattle.tree_parts.specs.Lists.{places_again}
use Rattle.tree_parts.proofs.lists.with_places_again.Given as goal

abbrev pub invariant-loop-place : goal.invariant-loop-place
invariant-loop-place l = (more : Entries) → places_then (parts_of l.places.items) more ≡ places_then (parts_of l.fn.places.items) (places_again l.place more)
