-- Notes behind others, one after another.
use Rattle.std.proofs.Common.{◌≡◌, List, [], ◌∷◌, ◌++◌, sym, ap, ◌∙◌, append_assoc, append-nil}
use Rattle.std.proofs.lemmas.List.{map-append}
use Rattle.convert_walks.specs.Told.{Note}
use Rattle.note_order.specs.Notes.{placed_view, notes_view}
use Rattle.note_order.specs.declared.note.PlacedNote.{PlacedNote}

pub note_turn : (old new : List PlacedNote) (x : PlacedNote) (xs ys : List PlacedNote) (all : List Note) → xs ≡ x ∷ ys → new ≡ old ++ x ∷ [] → notes_view old ++ notes_view xs ≡ all → notes_view new ++ notes_view ys ≡ all
note_turn old new x xs ys all next made was =
    ap (λ n. notes_view n ++ notes_view ys) made ∙ ap (λ z. z ++ notes_view ys) (map-append placed_view old (x ∷ []))
    ∙ append_assoc (notes_view old) (placed_view x ∷ []) (notes_view ys) ∙ ap (λ z. notes_view old ++ notes_view z) (sym next) ∙ was

pub notes_end : (new xs : List PlacedNote) (all : List Note) → xs ≡ [] → notes_view new ++ notes_view xs ≡ all → notes_view new ≡ all
notes_end new xs all e was = sym (append-nil (notes_view new)) ∙ ap (λ z. notes_view new ++ notes_view z) (sym e) ∙ was
