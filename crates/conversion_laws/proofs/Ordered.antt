-- Notes in their order, each once.
use Rattle.std.proofs.Common.{◌≡◌, ℕ, List, [], ◌∷◌, Bool, true, false, ◌&&◌, ◌||◌, refl, sym, ap, ◌∙◌, true≢false, bytes_eq, arith}
use Rattle.std.specs.Prelude.{if◌then◌else◌, nat_eq, nat_lt}
use Rattle.std.specs.Ordering.{nat_cmp, ordering_reverse, is_eq}
use Rattle.std.specs.declared.cmp.Ordering.{Ordering}
use Rattle.std.specs.declared.cmp.Ordering.TheVariants.{Less, Equal, Greater}
use Rattle.std.specs.Cmp.Lexicographic.{slice_cmp}
use Rattle.std.proofs.lemmas.Cmp.{nat_list_cmp_total}
use Rattle.std.proofs.lemmas.Map.Text.{is_eq-slice_cmp}
use Rattle.std.proofs.lemmas.Slice.Eq.{bytes_eq-Decides}
use Rattle.std.proofs.lemmas.Bool.{ltb-false, eq-eqb, eqb-true}
use Rattle.schema_defs.specs.Location.{Step, Location}
use Rattle.convert_defs.specs.Row.{Way, narrowed, widened, untyped_note, null_note, const_note, integer_note, string_note, array_note, open_branch_note, mixed_branches_note, tag_alone_note, boolean_note, type_note, overlap_note, counts_note, names_note, not_note}
use Rattle.convert_defs.specs.Order.{way_number, is_less, place_before, same_place}
use Rattle.convert_defs.proofs.Bare.{and_left, and_right, impossible}
use Rattle.convert_walks.specs.Told.{NoteName, row_note, reference_note, formats_note, clash_note, members_note, subtract_note, absent_note, Note, note_number, same_note, comes_before, inserted, ordered}
use Rattle.conversion_laws.specs.Ordered.{Rise, has_note, NotesAreOrdered, SameNotesAreOne}

-- ---- of two notes one comes first, or they are the same

steps-differ : (a b : Step) → bytes_eq a b ≡ false → (is_less (slice_cmp nat_cmp a b) || is_less (slice_cmp nat_cmp b a)) ≡ true
steps-differ a b h = by (slice_cmp nat_cmp a b) refl
  where
    by : (o : Ordering) → slice_cmp nat_cmp a b ≡ o → (is_less o || is_less (slice_cmp nat_cmp b a)) ≡ true
    by Less e = refl
    by Equal e = absurd (true≢false (ap is_eq (sym e) ∙ is_eq-slice_cmp a b ∙ h))
    by Greater e = ap is_less (nat_list_cmp_total.antisymm b a ∙ ap ordering_reverse e)

turned : (a b : Step) → bytes_eq a b ≡ true → bytes_eq b a ≡ true
turned a b h = (bytes_eq-Decides b a).1 (sym ((bytes_eq-Decides a b).0 h))

no-middle : (x y : Bool) → (x || y) ≡ true → (x || false || y) ≡ true
no-middle true y h = refl
no-middle false y h = h

one-first : (l m : Location) → (place_before l m || same_place l m || place_before m l) ≡ true
one-first [] [] = refl
one-first [] (b ∷ ms) = refl
one-first (a ∷ ls) [] = refl
one-first (a ∷ ls) (b ∷ ms) = by (bytes_eq a b) refl (bytes_eq b a) refl (one-first ls ms)
  where
    by : (p : Bool) → bytes_eq a b ≡ p → (q : Bool) → bytes_eq b a ≡ q → (place_before ls ms || same_place ls ms || place_before ms ls) ≡ true
        → ((if p then place_before ls ms else is_less (slice_cmp nat_cmp a b)) || (p && same_place ls ms) || (if q then place_before ms ls else is_less (slice_cmp nat_cmp b a))) ≡ true
    by true e true f h = h
    by true e false f h = absurd (true≢false (sym (turned a b e) ∙ f))
    by false e true f h = absurd (true≢false (sym (turned b a f) ∙ e))
    by false e false f h = no-middle (is_less (slice_cmp nat_cmp a b)) (is_less (slice_cmp nat_cmp b a)) (steps-differ a b e)

same-turned : (l m : Location) → same_place l m ≡ true → same_place m l ≡ true
same-turned [] [] h = refl
same-turned [] (b ∷ ms) h = impossible h
same-turned (a ∷ ls) [] h = impossible h
same-turned (a ∷ ls) (b ∷ ms) h = let f = turned a b (and_left _ _ h) in let g = same-turned ls ms (and_right (bytes_eq a b) _ h) in λ i. f i && g i

numbers : (x y : ℕ) → (nat_lt x y || nat_eq x y || nat_lt y x) ≡ true
numbers x y = by (nat_lt x y) refl (nat_lt y x) refl
  where
    by : (p : Bool) → nat_lt x y ≡ p → (q : Bool) → nat_lt y x ≡ q → (p || nat_eq x y || q) ≡ true
    by true e q f = refl
    by false e true f = or-true (nat_eq x y)
      where
        or-true : (b : Bool) → (b || true) ≡ true
        or-true true = refl
        or-true false = refl
    by false e false f = ap (λ b. b || false) (eq-eqb x y (let a = ltb-false x y e in let b = ltb-false y x f in omega arith))

equal-turned : (x y : ℕ) → nat_eq x y ≡ true → nat_eq y x ≡ true
equal-turned x y h = eq-eqb y x (sym (eqb-true x y h))

-- by place, then by kind, then by way
three : (a a' p p' k k' q q' w w' v : Bool) → (a || p || a') ≡ true → (p ≡ true → p' ≡ true) → (k || q || k') ≡ true → (q ≡ true → q' ≡ true) → (w || v || w') ≡ true
    → ((a || (p && (k || (q && w)))) || (p && (q && v)) || (a' || (p' && (k' || (q' && w'))))) ≡ true
three true a' p p' k k' q q' w w' v h f g e t = refl
three false true p p' k k' q q' w w' v h f g e t = or-true _
  where
    or-true : (b : Bool) → (b || true) ≡ true
    or-true true = refl
    or-true false = refl
three false false false p' k k' q q' w w' v h f g e t = impossible h
three false false true p' k k' q q' w w' v h f g e t = same p' (f refl) k k' q q' w w' v g e t
  where
    or-true : (b : Bool) → (b || true) ≡ true
    or-true true = refl
    or-true false = refl

    same : (p' : Bool) → p' ≡ true → (k k' q q' w w' v : Bool) → (k || q || k') ≡ true → (q ≡ true → q' ≡ true) → (w || v || w') ≡ true → ((k || (q && w)) || (q && v) || (p' && (k' || (q' && w')))) ≡ true
    same false x k k' q q' w w' v g e t = impossible x
    same true x true k' q q' w w' v g e t = refl
    same true x false true q q' w w' v g e t = or-true _
    same true x false false false q' w w' v g e t = impossible g
    same true x false false true false w w' v g e t = impossible (e refl)
    same true x false false true true w w' v g e t = t

one-comes : (a b : Note) → (comes_before a b || same_note a b || comes_before b a) ≡ true
one-comes a b = three (place_before a.place b.place) (place_before b.place a.place) (same_place a.place b.place) (same_place b.place a.place)
    (nat_lt (note_number a.name) (note_number b.name)) (nat_lt (note_number b.name) (note_number a.name)) (nat_eq (note_number a.name) (note_number b.name)) (nat_eq (note_number b.name) (note_number a.name))
    (nat_lt (way_number a.way) (way_number b.way)) (nat_lt (way_number b.way) (way_number a.way)) (nat_eq (way_number a.way) (way_number b.way))
    (one-first a.place b.place) (same-turned a.place b.place) (numbers (note_number a.name) (note_number b.name)) (equal-turned (note_number a.name) (note_number b.name)) (numbers (way_number a.way) (way_number b.way))

-- ---- insertion

last-one : (a b c : Bool) → a ≡ false → b ≡ false → (a || b || c) ≡ true → c ≡ true
last-one true b c x y h = absurd (true≢false x)
last-one false true c x y h = absurd (true≢false y)
last-one false false c x y h = h

-- what comes before the first of a list and before a note comes before the first after insertion
after : (m n : Note) (ms : List Note) → comes_before m n ≡ true → Rise (m ∷ ms) → Rise (inserted n ms) → Rise (m ∷ inserted n ms)
after m n [] e h g = (e, g)
after m n (k ∷ ks) e h g = by (same_note n k) (comes_before n k) g
  where
    by : (p q : Bool) → Rise (if p then k ∷ ks else if q then n ∷ k ∷ ks else k ∷ inserted n ks) → Rise (m ∷ (if p then k ∷ ks else if q then n ∷ k ∷ ks else k ∷ inserted n ks))
    by true q g = (h.0, g)
    by false true g = (e, g)
    by false false g = (h.0, g)

tail-rises : (m : Note) (ms : List Note) → Rise (m ∷ ms) → Rise ms
tail-rises m [] h = tt
tail-rises m (n ∷ ns) h = h.1

inserted-rises : (n : Note) (ms : List Note) → Rise ms → Rise (inserted n ms)
inserted-rises n [] h = tt
inserted-rises n (m ∷ ms) h = by (same_note n m) refl (comes_before n m) refl (inserted-rises n ms (tail-rises m ms h))
  where
    by : (p : Bool) → same_note n m ≡ p → (q : Bool) → comes_before n m ≡ q → Rise (inserted n ms) → Rise (if p then m ∷ ms else if q then n ∷ m ∷ ms else m ∷ inserted n ms)
    by true e q f g = h
    by false e true f g = (f, h)
    by false e false f g = after m n ms (last-one (comes_before n m) (same_note n m) (comes_before m n) f e (one-comes n m)) h g

all-rise : (ns : List Note) → Rise (ordered ns)
all-rise [] = tt
all-rise (n ∷ ns) = inserted-rises n (ordered ns) (all-rise ns)

-- ---- the same notes

same-location : (l m : Location) → same_place l m ≡ true → l ≡ m
same-location [] [] h = refl
same-location [] (b ∷ ms) h = impossible h
same-location (a ∷ ls) [] h = impossible h
same-location (a ∷ ls) (b ∷ ms) h = let f = (bytes_eq-Decides a b).0 (and_left _ _ h) in let g = same-location ls ms (and_right (bytes_eq a b) _ h) in λ i. f i ∷ g i

alike : (k n m : Note) → same_note n m ≡ true → same_note k n ≡ same_note k m
alike k n m h =
    let a = same-location n.place m.place (and_left (same_place n.place m.place) _ h) in
    let r = and_right (same_place n.place m.place) _ h in
    let b = eqb-true (note_number n.name) (note_number m.name) (and_left (nat_eq (note_number n.name) (note_number m.name)) _ r) in
    let c = eqb-true (way_number n.way) (way_number m.way) (and_right (nat_eq (note_number n.name) (note_number m.name)) _ r) in
    λ i. same_place k.place (a i) && (nat_eq (note_number k.name) (b i) && nat_eq (way_number k.way) (c i))

twice : (a b : Bool) → (a || b) ≡ (a || (a || b))
twice true b = refl
twice false b = refl

swapped : (a b c : Bool) → (a || (b || c)) ≡ (b || (a || c))
swapped true true c = refl
swapped true false c = refl
swapped false b c = refl

inserted-has : (k n : Note) (ms : List Note) → has_note k (inserted n ms) ≡ (same_note k n || has_note k ms)
inserted-has k n [] = refl
inserted-has k n (m ∷ ms) = by (same_note n m) refl (comes_before n m) (inserted-has k n ms)
  where
    by : (p : Bool) → same_note n m ≡ p → (q : Bool) → has_note k (inserted n ms) ≡ (same_note k n || has_note k ms)
        → has_note k (if p then m ∷ ms else if q then n ∷ m ∷ ms else m ∷ inserted n ms) ≡ (same_note k n || (same_note k m || has_note k ms))
    by true e q h = twice (same_note k m) (has_note k ms) ∙ ap (λ b. b || (same_note k m || has_note k ms)) (sym (alike k n m e))
    by false e true h = refl
    by false e false h = ap (λ b. same_note k m || b) h ∙ swapped (same_note k m) (same_note k n) (has_note k ms)

all-had : (k : Note) (ns : List Note) → has_note k (ordered ns) ≡ has_note k ns
all-had k [] = refl
all-had k (n ∷ ns) = inserted-has k n (ordered ns) ∙ ap (λ b. same_note k n || b) (all-had k ns)

pub notes_are_ordered : NotesAreOrdered
notes_are_ordered ns = (all-rise ns, λ n. all-had n ns)

-- ---- numbers tell names and ways apart

abbrev name_at : ℕ → NoteName
name_at n =
    if nat_eq n 1 then row_note untyped_note else
    if nat_eq n 2 then row_note null_note else
    if nat_eq n 3 then row_note const_note else
    if nat_eq n 4 then row_note integer_note else
    if nat_eq n 5 then row_note string_note else
    if nat_eq n 6 then row_note array_note else
    if nat_eq n 7 then row_note open_branch_note else
    if nat_eq n 8 then row_note mixed_branches_note else
    if nat_eq n 9 then row_note tag_alone_note else
    if nat_eq n 10 then row_note boolean_note else
    if nat_eq n 11 then row_note type_note else
    if nat_eq n 12 then row_note overlap_note else
    if nat_eq n 13 then row_note counts_note else
    if nat_eq n 14 then row_note names_note else
    if nat_eq n 15 then row_note not_note else
    if nat_eq n 16 then reference_note else
    if nat_eq n 17 then formats_note else
    if nat_eq n 18 then clash_note else
    if nat_eq n 19 then members_note else
    if nat_eq n 20 then subtract_note else
    absent_note

name_back : (k : NoteName) → name_at (note_number k) ≡ k
name_back (row_note untyped_note) = refl
name_back (row_note null_note) = refl
name_back (row_note const_note) = refl
name_back (row_note integer_note) = refl
name_back (row_note string_note) = refl
name_back (row_note array_note) = refl
name_back (row_note open_branch_note) = refl
name_back (row_note mixed_branches_note) = refl
name_back (row_note tag_alone_note) = refl
name_back (row_note boolean_note) = refl
name_back (row_note type_note) = refl
name_back (row_note overlap_note) = refl
name_back (row_note counts_note) = refl
name_back (row_note names_note) = refl
name_back (row_note not_note) = refl
name_back reference_note = refl
name_back formats_note = refl
name_back clash_note = refl
name_back members_note = refl
name_back subtract_note = refl
name_back absent_note = refl

abbrev way_at : ℕ → Way
way_at n = if nat_eq n 0 then narrowed else widened

way_back : (w : Way) → way_at (way_number w) ≡ w
way_back narrowed = refl
way_back widened = refl

pub same_notes_are_one : SameNotesAreOne
same_notes_are_one m n h =
    let a = same-location m.place n.place (and_left (same_place m.place n.place) _ h) in
    let r = and_right (same_place m.place n.place) _ h in
    let b = eqb-true (note_number m.name) (note_number n.name) (and_left (nat_eq (note_number m.name) (note_number n.name)) _ r) in
    let c = eqb-true (way_number m.way) (way_number n.way) (and_right (nat_eq (note_number m.name) (note_number n.name)) _ r) in
    let names = sym (name_back m.name) ∙ ap name_at b ∙ name_back n.name in
    let ways = sym (way_back m.way) ∙ ap way_at c ∙ way_back n.way in
    λ i. record { way = ways i; name = names i; place = a i }
