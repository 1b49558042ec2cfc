-- One element of a list after another, each giving some of what is made.
use Rattle.std.proofs.Common.{◌≡◌, ℕ, ◌+◌, ◌<◌, ◌≤◌, List, [], ◌∷◌, ◌++◌, map, drop, length, get_or, append_assoc, append-nil, refl, sym, ap, ◌∙◌}
use Rattle.std.proofs.lemmas.List.{drop_all}
use Rattle.schema_defs.proofs.Turns.{mapped_drop}
use Rattle.merge_defs.specs.Outcome.{Note, other_way, turned}
use Rattle.merge_parts.specs.declared.notes.MergeNote.{MergeNote}
use Rattle.merge_parts.specs.View.{note_view, notes_view}

-- what an element gives, behind what those before it gave
module _ {X Y Z : Type 0} (f : X → Y) (first : Y → List Z) (all : List Y → List Z) (none : all [] ≡ []) (more : (y : Y) (ys : List Y) → all (y ∷ ys) ≡ first y ++ all ys) where
  pub step : (xs : List X) (i : ℕ) (x : X) (old new w : List Z) → i < length xs → x ≡ get_or xs i x → new ≡ old ++ first (f x)
      → old ++ all (map f (drop i xs)) ≡ w → new ++ all (map f (drop (i + 1) xs)) ≡ w
  step xs i x old new w h e made was =
      let rest = map f (drop (i + 1) xs) in
      ap (λ z. z ++ all rest) made
      ∙ append_assoc old (first (f x)) (all rest)
      ∙ ap (λ z. old ++ z) (sym (more (f x) rest))
      ∙ ap (λ z. old ++ all z) (sym (mapped_drop f xs i x h e))
      ∙ was

  pub last : (xs : List X) (i : ℕ) (old w : List Z) → length xs ≤ i → old ++ all (map f (drop i xs)) ≡ w → old ≡ w
  last xs i old w h was = sym (append-nil old) ∙ ap (λ z. old ++ z) (sym none) ∙ ap (λ z. old ++ all (map f z)) (sym (drop_all i xs h)) ∙ was

-- ---- notes

abbrev turned_note : Note → List Note
turned_note n = record { way = other_way n.way; kind = n.kind } ∷ []

pub turned_step : (xs : List MergeNote) (i : ℕ) (x : MergeNote) (old new w : List Note) → i < length xs → x ≡ get_or xs i x → new ≡ old ++ record { way = other_way (note_view x).way; kind = (note_view x).kind } ∷ []
    → old ++ turned (notes_view (drop i xs)) ≡ w → new ++ turned (notes_view (drop (i + 1) xs)) ≡ w
turned_step = step note_view turned_note turned refl (λ y ys. refl)

pub turned_last : (xs : List MergeNote) (i : ℕ) (old w : List Note) → length xs ≤ i → old ++ turned (notes_view (drop i xs)) ≡ w → old ≡ w
turned_last = last note_view turned_note turned refl (λ y ys. refl)
