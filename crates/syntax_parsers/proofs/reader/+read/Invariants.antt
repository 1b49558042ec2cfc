-- A reader's measure: room first, then how many readers it may still call on the same room.
use Rattle.std.proofs.Common.{◌+◌, ◌*◌, ◌≤◌, ◌≡◌, map}
use Rattle.token_trees.specs.View.{trees}
use Rattle.syntax_trees.specs.View.{ty, segment_view, bound_view, generic_view}
use Rattle.syntax_parsers.specs.Answer.{with_first}
use Rattle.syntax_parsers.specs.Read.{levels}
use Rattle.syntax_parsers.proofs.reader.+read.Given as goal

abbrev pub decreases-read_ty : goal.decreases-read_ty
decreases-read_ty l = 8 * l.room

abbrev pub decreases-read_signed_ty : goal.decreases-read_signed_ty
decreases-read_signed_ty l = 8 * l.room + 7

abbrev pub decreases-read_grouped_ty : goal.decreases-read_grouped_ty
decreases-read_grouped_ty l = 8 * l.room + 6

abbrev pub decreases-read_worded_ty : goal.decreases-read_worded_ty
decreases-read_worded_ty l = 8 * l.room + 4

abbrev pub decreases-read_plain_ty : goal.decreases-read_plain_ty
decreases-read_plain_ty l = 8 * l.room + 3

abbrev pub decreases-read_path_ty : goal.decreases-read_path_ty
decreases-read_path_ty l = 8 * l.room + 2

abbrev pub decreases-read_reference : goal.decreases-read_reference
decreases-read_reference l = 8 * l.room + 1

abbrev pub decreases-read_pointer : goal.decreases-read_pointer
decreases-read_pointer l = 8 * l.room + 1

abbrev pub decreases-read_bracketed : goal.decreases-read_bracketed
decreases-read_bracketed l = 8 * l.room + 5

abbrev pub decreases-read_length : goal.decreases-read_length
decreases-read_length l = 8 * l.room + 4

abbrev pub decreases-read_some_length : goal.decreases-read_some_length
decreases-read_some_length l = 8 * l.room + 3

abbrev pub decreases-read_other_length : goal.decreases-read_other_length
decreases-read_other_length l = 8 * l.room + 2

abbrev pub decreases-read_whole_expr_path : goal.decreases-read_whole_expr_path
decreases-read_whole_expr_path l = 8 * l.room + 1

abbrev pub decreases-read_expr_path : goal.decreases-read_expr_path
decreases-read_expr_path l = 8 * l.room

abbrev pub decreases-read_either_path : goal.decreases-read_either_path
decreases-read_either_path l = 8 * l.room + 4

abbrev pub decreases-read_qualified : goal.decreases-read_qualified
decreases-read_qualified l = 8 * l.room + 3

abbrev pub decreases-read_through_trait : goal.decreases-read_through_trait
decreases-read_through_trait l = 8 * l.room + 2

abbrev pub decreases-read_trait : goal.decreases-read_trait
decreases-read_trait l = 8 * l.room + 1

abbrev pub decreases-read_behind : goal.decreases-read_behind
decreases-read_behind l = 8 * l.room + 1

abbrev pub decreases-read_path : goal.decreases-read_path
decreases-read_path l = 8 * l.room + 1

abbrev pub decreases-read_segments : goal.decreases-read_segments
decreases-read_segments l = 8 * l.room

abbrev pub decreases-read_segment : goal.decreases-read_segment
decreases-read_segment l = 8 * l.room + 4

abbrev pub decreases-read_arguments : goal.decreases-read_arguments
decreases-read_arguments l = 8 * l.room + 3

abbrev pub decreases-read_signature : goal.decreases-read_signature
decreases-read_signature l = 8 * l.room + 2

abbrev pub decreases-read_output : goal.decreases-read_output
decreases-read_output l = 8 * l.room + 1

abbrev pub decreases-read_function : goal.decreases-read_function
decreases-read_function l = 8 * l.room + 3

abbrev pub decreases-read_tys : goal.decreases-read_tys
decreases-read_tys l = 8 * l.room

abbrev pub decreases-read_some_bounds : goal.decreases-read_some_bounds
decreases-read_some_bounds l = 8 * l.room + 1

abbrev pub decreases-read_bounds : goal.decreases-read_bounds
decreases-read_bounds l = 8 * l.room

abbrev pub decreases-read_bound : goal.decreases-read_bound
decreases-read_bound l = 8 * l.room + 2

abbrev pub decreases-read_generics : goal.decreases-read_generics
decreases-read_generics l = 8 * l.room

abbrev pub decreases-read_generic : goal.decreases-read_generic
decreases-read_generic l = 8 * l.room + 3

abbrev pub decreases-read_named_generic : goal.decreases-read_named_generic
decreases-read_named_generic l = 8 * l.room + 2

abbrev pub decreases-read_associated : goal.decreases-read_associated
decreases-read_associated l = 8 * l.room + 1

abbrev pub invariant-read_segments-segments : goal.invariant-read_segments-segments
invariant-read_segments-segments l =
    (l.depth ≤ l.room)
    × ((levels l.room).segments l.at (trees l.tokens) ≡ with_first (map segment_view l.found.items) ((levels l.depth).segments l.at (trees l.left)))

abbrev pub decreases-read_segments-segments : goal.decreases-read_segments-segments
decreases-read_segments-segments l = l.depth

abbrev pub invariant-read_tys-tys : goal.invariant-read_tys-tys
invariant-read_tys-tys l =
    (l.depth ≤ l.room)
    × ((levels l.room).tys l.at (trees l.tokens) ≡ with_first (map ty l.found.items) ((levels l.depth).tys l.at (trees l.left)))

abbrev pub decreases-read_tys-tys : goal.decreases-read_tys-tys
decreases-read_tys-tys l = l.depth

abbrev pub invariant-read_bounds-bounds : goal.invariant-read_bounds-bounds
invariant-read_bounds-bounds l =
    (l.depth ≤ l.room)
    × ((levels l.room).bounds l.at (trees l.tokens) ≡ with_first (map bound_view l.found.items) ((levels l.depth).bounds l.at (trees l.left)))

abbrev pub decreases-read_bounds-bounds : goal.decreases-read_bounds-bounds
decreases-read_bounds-bounds l = l.depth

abbrev pub invariant-read_generics-generics : goal.invariant-read_generics-generics
invariant-read_generics-generics l =
    (l.depth ≤ l.room)
    × ((levels l.room).generics l.at (trees l.tokens) ≡ with_first (map generic_view l.found.items) ((levels l.depth).generics l.at (trees l.left)))

abbrev pub decreases-read_generics-generics : goal.decreases-read_generics-generics
decreases-read_generics-generics l = l.depth
