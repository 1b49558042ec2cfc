use Rattle.std.proofs.Common.{option_map}
use Rattle.tree_types.specs.View.{table_view}
use Rattle.note_order.specs.Notes.{notes_view}
use Rattle.convert_document.specs.Keeping.{unread_view}
use Rattle.typify_convert.proofs.Holding.{targets_held}
use Rattle.typify_convert.proofs.collect.place_targets.Goals as goal

pub returns : goal.returns
returns c r d most n h same found keeps =
    targets_held r d most n c.args.held.now _ h (notes_view c.args.found.notes.items) (option_map unread_view c.args.found.unread) (table_view c.args.found.table) same found keeps c.in_ok-take_notes.ensures c.in_ok-take_unread.ensures
    c.in_ok-plan.ensures
