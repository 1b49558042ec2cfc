use Rattle.std.proofs.Common.{option_map}
use Rattle.entry_types.specs.View.{id_view}
use Rattle.tree_types.specs.View.{tree_view}
use Rattle.note_order.specs.Notes.{notes_view}
use Rattle.convert_document.specs.Keeping.{unread_view}
use Rattle.typify_convert.proofs.Holding.{tree_held}
use Rattle.typify_convert.proofs.schema.place.Goals as goal

pub returns : goal.returns
returns c r d most n ts h found keeps =
    tree_held r d most n c.args.held.now _ h (notes_view c.args.found.notes.items) (option_map unread_view c.args.found.unread) ts found keeps c.in_ok-take_notes.ensures c.in_ok-take_unread.ensures (tree_view c.args.found.tree)
    (id_view c.in_ok-id.id) c.in_ok-id.ensures
