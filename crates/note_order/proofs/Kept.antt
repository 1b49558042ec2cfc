-- One note more among those that are kept.
use Rattle.std.proofs.Common.{◌≡◌, ℕ, List, [], ◌∷◌, ◌++◌, Bool, true, false, cond, ◌&&◌, ◌||◌, bytes_eq, nat_cmp, refl, ap, sym, ◌∙◌, arith}
use Rattle.std.specs.Prelude.{if◌then◌else◌, nat_eq, nat_lt}
use Rattle.std.specs.Ordering.{ordering_then, is_eq, is_lt, match_ordering}
use Rattle.std.specs.declared.cmp.Ordering.{Ordering}
use Rattle.std.specs.declared.cmp.Ordering.TheVariants.{Less, Equal, Greater}
use Rattle.std.specs.BTreeSet.{insert_key}
use Rattle.std.specs.Cmp.Lexicographic.{slice_cmp}
use Rattle.std.proofs.lemmas.List.{map-append}
use Rattle.std.proofs.lemmas.Bool.{ltb-true, eqb-true}
use Rattle.std.proofs.lemmas.Map.Text.{is_eq-slice_cmp}
use Rattle.schema_defs.specs.Location.{Location}
use Rattle.convert_defs.specs.Order.{way_number, is_less, place_before, same_place}
use Rattle.convert_walks.specs.Told.{Note, note_number, same_note, comes_before, inserted, ordered}
use Rattle.note_order.specs.First.{note_cmp}
use Rattle.note_order.specs.Notes.{placed_view, notes_view}
use Rattle.note_order.specs.declared.note.PlacedNote.{PlacedNote}

-- ---- places

same-by : (o p : Ordering) (e f : Bool) → is_eq o ≡ e → is_eq p ≡ f → (e && f) ≡ is_eq (ordering_then o p)
same-by Less p e f h g = ap (λ b. b && f) (sym h)
same-by Equal p e f h g = ap (λ b. b && f) (sym h) ∙ sym g
same-by Greater p e f h g = ap (λ b. b && f) (sym h)

same_is : (l m : Location) → same_place l m ≡ is_eq (slice_cmp (slice_cmp nat_cmp) l m)
same_is [] [] = refl
same_is [] (b ∷ ms) = refl
same_is (a ∷ ls) [] = refl
same_is (a ∷ ls) (b ∷ ms) = same-by (slice_cmp nat_cmp a b) (slice_cmp (slice_cmp nat_cmp) ls ms) (bytes_eq a b) (same_place ls ms) (is_eq-slice_cmp a b) (sym (same_is ls ms))

before-by : (o p : Ordering) (e f : Bool) → is_eq o ≡ e → is_lt p ≡ f → (if e then f else is_less o) ≡ is_lt (ordering_then o p)
before-by Less p e f h g = ap (λ b. if b then f else true) (sym h)
before-by Equal p e f h g = ap (λ b. if b then f else false) (sym h) ∙ sym g
before-by Greater p e f h g = ap (λ b. if b then f else false) (sym h)

before_is : (l m : Location) → place_before l m ≡ is_lt (slice_cmp (slice_cmp nat_cmp) l m)
before_is [] [] = refl
before_is [] (b ∷ ms) = refl
before_is (a ∷ ls) [] = refl
before_is (a ∷ ls) (b ∷ ms) = before-by (slice_cmp nat_cmp a b) (slice_cmp (slice_cmp nat_cmp) ls ms) (bytes_eq a b) (place_before ls ms) (is_eq-slice_cmp a b) (sym (before_is ls ms))

-- ---- numbers

less_is : (x y : ℕ) → nat_lt x y ≡ is_lt (nat_cmp x y)
less_is x y = by (nat_lt x y) (nat_eq x y)
  where
    by : (p q : Bool) → p ≡ is_lt (cond p Less (cond q Equal Greater))
    by true q = refl
    by false true = refl
    by false false = refl

equal_is : (x y : ℕ) → nat_eq x y ≡ is_eq (nat_cmp x y)
equal_is x y = by (nat_lt x y) refl (nat_eq x y) refl
  where
    by : (p : Bool) → nat_lt x y ≡ p → (q : Bool) → nat_eq x y ≡ q → q ≡ is_eq (cond p Less (cond q Equal Greater))
    by true e true f = let a = ltb-true x y e in let b = eqb-true x y f in absurd (omega (arith, a, b))
    by true e false f = refl
    by false e true f = refl
    by false e false f = refl

-- ---- notes

whole-by : {X : Type 0} (o k w : Ordering) (sp pb ke kl we wl : Bool) (x y z : X) → sp ≡ is_eq o → pb ≡ is_lt o → ke ≡ is_eq k → kl ≡ is_lt k → we ≡ is_eq w → wl ≡ is_lt w
    → match_ordering (ordering_then o (ordering_then k w)) x y z ≡ (if sp && (ke && we) then y else if pb || (sp && (kl || (ke && wl))) then x else z)
whole-by Less k w sp pb ke kl we wl x y z a b c d e f = λ i. if sym a i && (ke && we) then y else if sym b i || (sym a i && (kl || (ke && wl))) then x else z
whole-by Greater k w sp pb ke kl we wl x y z a b c d e f = λ i. if sym a i && (ke && we) then y else if sym b i || (sym a i && (kl || (ke && wl))) then x else z
whole-by Equal Less w sp pb ke kl we wl x y z a b c d e f = λ i. if sym a i && (sym c i && we) then y else if sym b i || (sym a i && (sym d i || (sym c i && wl))) then x else z
whole-by Equal Greater w sp pb ke kl we wl x y z a b c d e f = λ i. if sym a i && (sym c i && we) then y else if sym b i || (sym a i && (sym d i || (sym c i && wl))) then x else z
whole-by Equal Equal Less sp pb ke kl we wl x y z a b c d e f = λ i. if sym a i && (sym c i && sym e i) then y else if sym b i || (sym a i && (sym d i || (sym c i && sym f i))) then x else z
whole-by Equal Equal Equal sp pb ke kl we wl x y z a b c d e f = λ i. if sym a i && (sym c i && sym e i) then y else if sym b i || (sym a i && (sym d i || (sym c i && sym f i))) then x else z
whole-by Equal Equal Greater sp pb ke kl we wl x y z a b c d e f = λ i. if sym a i && (sym c i && sym e i) then y else if sym b i || (sym a i && (sym d i || (sym c i && sym f i))) then x else z

whole_is : {X : Type 0} (n m : Note) (x y z : X) → match_ordering (note_cmp n m) x y z ≡ (if same_note n m then y else if comes_before n m then x else z)
whole_is n m x y z =
    whole-by (slice_cmp (slice_cmp nat_cmp) n.place m.place) (nat_cmp (note_number n.name) (note_number m.name)) (nat_cmp (way_number n.way) (way_number m.way)) _ _ _ _ _ _ x y z
    (same_is n.place m.place) (before_is n.place m.place) (equal_is (note_number n.name) (note_number m.name)) (less_is (note_number n.name) (note_number m.name)) (equal_is (way_number n.way) (way_number m.way)) (less_is (way_number n.way) (way_number m.way))

-- ---- insertion

abbrev by_note : PlacedNote → PlacedNote → Ordering
by_note a b = note_cmp (placed_view a) (placed_view b)

matched : {X Y : Type 0} (f : X → Y) (o : Ordering) (x y z : X) → f (match_ordering o x y z) ≡ match_ordering o (f x) (f y) (f z)
matched f Less x y z = refl
matched f Equal x y z = refl
matched f Greater x y z = refl

insert_is : (ks : List PlacedNote) (n : PlacedNote) → notes_view (insert_key by_note ks n) ≡ inserted (placed_view n) (notes_view ks)
insert_is [] n = refl
insert_is (k ∷ ks) n =
    matched notes_view (by_note n k) (n ∷ k ∷ ks) (k ∷ ks) (k ∷ insert_key by_note ks n)
    ∙ ap (λ ms. match_ordering (by_note n k) (placed_view n ∷ placed_view k ∷ notes_view ks) (placed_view k ∷ notes_view ks) (placed_view k ∷ ms)) (insert_is ks n)
    ∙ whole_is (placed_view n) (placed_view k) (placed_view n ∷ placed_view k ∷ notes_view ks) (placed_view k ∷ notes_view ks) (placed_view k ∷ inserted (placed_view n) (notes_view ks))

-- those before, inserted into what is kept
abbrev pub onto : List Note → List Note → List Note
onto [] ms = ms
onto (n ∷ ns) ms = inserted n (onto ns ms)

onto_last : (ns : List Note) (n : Note) (ms : List Note) → onto (ns ++ n ∷ []) ms ≡ onto ns (inserted n ms)
onto_last [] n ms = refl
onto_last (k ∷ ns) n ms = ap (inserted k) (onto_last ns n ms)

pub onto_none : (ns : List Note) → onto ns [] ≡ ordered ns
onto_none [] = refl
onto_none (n ∷ ns) = ap (inserted n) (onto_none ns)

-- a turn of the loop
pub one_kept : (whole : List Note) (old new ks ls : List PlacedNote) (n : PlacedNote) → old ≡ new ++ n ∷ [] → ls ≡ insert_key by_note ks n
    → onto (notes_view old) (notes_view ks) ≡ whole → onto (notes_view new) (notes_view ls) ≡ whole
one_kept whole old new ks ls n e f h =
    ap (λ zs. onto (notes_view new) (notes_view zs)) f ∙ ap (onto (notes_view new)) (insert_is ks n) ∙ sym (onto_last (notes_view new) (placed_view n) (notes_view ks))
    ∙ ap (λ zs. onto zs (notes_view ks)) (sym (map-append placed_view new (n ∷ [])) ∙ ap notes_view (sym e)) ∙ h
