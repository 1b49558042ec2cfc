use Rattle.std.proofs.Common.{ap, ◌∙◌}
use Rattle.note_order.specs.Notes.{notes_view}
use Rattle.note_order.proofs.Kept.{onto, onto_none}
use Rattle.note_order.proofs.sorted.kept_notes.Goals as goal

pub loop-note-init : goal.loop-note-init
loop-note-init c = ap (λ ks. onto (notes_view c.args.notes.items) (notes_view ks)) c.new-kept.ensures.empty ∙ onto_none (notes_view c.args.notes.items)
