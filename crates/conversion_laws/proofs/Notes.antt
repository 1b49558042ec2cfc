-- What notes and faults of a node say: no note of the way is told of its row or of its merge, and no fault.
use Rattle.std.proofs.Common.{◌≡◌, ℕ, List, [], ◌∷◌, ◌++◌, map, Bool, true, false, ◌||◌, Some, None, refl, sym, ap, ◌∙◌}
use Rattle.std.specs.Prelude.{if◌then◌else◌, nat_eq, not, nat_le}
use Rattle.std.specs.List.{list_all}
use Rattle.schema_defs.specs.Texts.{Relations}
use Rattle.schema_defs.specs.Schema.{Schema, boolean, Document}
use Rattle.convert_defs.specs.Row as row
use Rattle.convert_defs.specs.Row.{Way, narrowed, widened, Cause, Finding, Row, leaf_row, as_it_is_row, option_row, ruled_row, vec_row, set_row, array_row, tuple_row, map_row, pattern_map_row, struct_row, enum_row, merged_row, refused_row, bad_pattern, places}
use Rattle.convert_defs.specs.Order.{way_number, same_place}
use Rattle.convert_defs.specs.Laws as laws
use Rattle.convert_defs.specs.Laws.{same_way}
use Rattle.convert_defs.specs.Faults.{fault_if, row_faults, finding_faults}
use Rattle.convert_defs.proofs.Bare.{and_right, impossible, none_in, no_right}
use Rattle.convert_defs.proofs.Rows.{IsMade}
use Rattle.merge_defs.specs.Outcome as merge
use Rattle.merge_defs.specs.Outcome.{Outcome, fault, never, answer, depth, unsupported, has_way}
use Rattle.convert_walks.specs.Spot.{Spot, Branches}
use Rattle.convert_walks.specs.Tree.{Standing, plain_of, answered_as, instead}
use Rattle.convert_walks.specs.Told.{Note, note_number, same_note, comes_before, inserted, ordered, placed_note, way_of, merge_note, outcome_notes, merge_faults}
use Rattle.merging_laws.specs.Laws.{notes_told}
use Rattle.merging_laws.specs.Conversion.{Free}
use Rattle.conversion_laws.proofs.Clean.{merge_way}

module _ (way : Way) where
  pub free-left : (xs ys : List Note) → Free way (xs ++ ys) → Free way xs
  free-left [] ys h = tt
  free-left (x ∷ xs) ys h = (h.0, free-left xs ys h.1)

  pub free-right : (xs ys : List Note) → Free way (xs ++ ys) → Free way ys
  free-right [] ys h = h
  free-right (x ∷ xs) ys h = free-right xs ys h.1

  -- ---- notes in order are the same notes

  same-number : (a b : Way) → nat_eq (way_number a) (way_number b) ≡ true → a ≡ b
  same-number narrowed narrowed h = refl
  same-number narrowed widened h = impossible h
  same-number widened narrowed h = impossible h
  same-number widened widened h = refl

  free-inserted : (n : Note) (ms : List Note) → Free way (inserted n ms) → (same_way way n.way ≡ false) × Free way ms
  free-inserted n [] h = h
  free-inserted n (m ∷ ms) h = by (same_note n m) refl (comes_before n m) h (free-inserted n ms)
    where
      by : (b : Bool) → same_note n m ≡ b → (c : Bool) → Free way (if b then m ∷ ms else if c then n ∷ m ∷ ms else m ∷ inserted n ms) → (Free way (inserted n ms) → (same_way way n.way ≡ false) × Free way ms)
          → (same_way way n.way ≡ false) × Free way (m ∷ ms)
      by true e c h f = (ap (same_way way) (same-number n.way m.way (and_right (nat_eq (note_number n.name) (note_number m.name)) _ (and_right (same_place n.place m.place) _ e))) ∙ h.0, h)
      by false e true h f = h
      by false e false h f = let k = f h.1 in (k.0, (h.0, k.1))

  pub free-ordered : (ns : List Note) → Free way (ordered ns) → Free way ns
  free-ordered [] h = tt
  free-ordered (n ∷ ns) h = let k = free-inserted n (ordered ns) h in (k.0, free-ordered ns k.1)

  -- ---- of a row, and of a merge

  pub free-row : (o : Spot) (ms : Branches) (ns : List row.Note) → Free way (map (placed_note o ms) ns) → laws.Free way ns
  free-row o ms [] h = tt
  free-row o ms (n ∷ ns) h = (h.0, free-row o ms ns h.1)

  merge-same : (w : merge.Way) → same_way way (way_of w) ≡ merge.same_way (merge_way way) w
  merge-same w = by way w
    where
      by : (way : Way) (w : merge.Way) → same_way way (way_of w) ≡ merge.same_way (merge_way way) w
      by narrowed merge.narrowed = refl
      by narrowed merge.widened = refl
      by widened merge.narrowed = refl
      by widened merge.widened = refl

  free-merge : (o : Spot) (ns : List merge.Note) → Free way (map (merge_note o) ns) → has_way (merge_way way) ns ≡ false
  free-merge o [] h = refl
  free-merge o (n ∷ ns) h = λ i. (sym (merge-same n.way) ∙ h.0) i || free-merge o ns h.1 i

  pub free-outcome : (r : Relations) (d : Document) (most n : ℕ) (o : Spot) (m : Outcome Schema) → Free way (outcome_notes r d most n o (Some m)) → has_way (merge_way way) (notes_told m) ≡ false
  free-outcome r d most n o (fault f) h = refl
  free-outcome r d most n o (never ns) h = free-merge o ns h
  free-outcome r d most n o (answer ns s) h = free-merge o ns h

-- ---- faults

module _ (r : Relations) (d : Document) (most : ℕ) where
  made-row : (w : Row) → row_faults r d most w ≡ [] → IsMade w
  made-row (merged_row ps) h = none_in _ _ h
  made-row (refused_row c) h = none_in _ _ h
  made-row (leaf_row e) h = tt
  made-row (as_it_is_row p) h = tt
  made-row (option_row p) h = tt
  made-row (ruled_row p u) h = tt
  made-row (vec_row p) h = tt
  made-row (set_row p) h = tt
  made-row (array_row p n) h = tt
  made-row (tuple_row ps n p) h = tt
  made-row (map_row k p) h = tt
  made-row (pattern_map_row qs p) h = tt
  made-row (struct_row c fs u) h = tt
  made-row (enum_row t c ws) h = tt

  pub no-map : {A B : Type 0} (f : A → B) (xs : List A) → map f xs ≡ [] → xs ≡ []
  no-map f [] h = refl
  no-map f (x ∷ xs) h = none_in _ _ h

  pub made-finding : (f : Finding) → finding_faults r d most f ≡ [] → IsMade f.row
  made-finding f h = made-row f.row (no_right (fault_if (not (list_all r.is_pattern f.patterns)) bad_pattern ++ fault_if (not (nat_le f.places most)) places) _ h)

  -- what isn't refused leaves something in the place
  pub something-stands : (n : ℕ) (o : Spot) (s : Schema) (m : Outcome Schema) → merge_faults r d most n o m ≡ [] → instead o s m ≡ None → ⊥
  something-stands n o s (fault (depth [])) h e = none_in _ _ h
  something-stands n o s (fault (depth (l ∷ w))) h e = none_in _ _ h
  something-stands n o s (fault (unsupported u)) h e = none_in _ _ h
  something-stands n o s (never ns) h e = none_some (answered_as o s (plain_of s) (boolean false)) (sym e)
    where
      none_some : (t : Standing) → None ≡ Some t → ⊥
      none_some t k = cc
  something-stands n o s (answer ns a) h e = none_some (answered_as o s (plain_of s) a) (sym e)
    where
      none_some : (t : Standing) → None ≡ Some t → ⊥
      none_some t k = cc
