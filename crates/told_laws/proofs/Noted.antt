-- Notes in order are those of all sixteen that stand among the notes.
use Rattle.std.proofs.Common.{◌≡◌, ℕ, zero, suc, ◌<◌, List, [], ◌∷◌, ◌++◌, length, map, get_or, Bool, true, false, cond, ◌&&◌, ◌||◌, refl, sym, ap, ◌∙◌, subst, nat_eq, filter, AllPairs, Contains, if◌then◌else◌, arith}
use Rattle.std.specs.List.{list_any, list_all}
use Rattle.std.proofs.lemmas.Bool.{eqb-true}
use Rattle.std.proofs.lemmas.List.{length-map}
use Rattle.std.proofs.lemmas.List.Kept.{AllPairs-cons, AllPairs-filter}
use Rattle.std.proofs.lemmas.List.Elements.{Contains-append_right}
use Rattle.std.proofs.lemmas.List.Sums.{AllPass-from_list_all}
use Rattle.schema_defs.specs.Location.{Location}
use Rattle.enum_defs.proofs.Tests.{and_left, and_right, impossible, first, second}
use Rattle.merge_defs.specs.Outcome.{Way, narrowed, widened, same_way, Kind, of_integer, of_names, of_reference, of_formats, of_clash, of_members, of_subtract, of_absent, Note, note_if}
use Rattle.merge_walks.specs.Told.{PlacedNote, note_at}
use Rattle.schema_merge.specs.Ordered.{number, is_noted, of_kinds, kinds, ordered_notes}
use Rattle.told_laws.specs.Laws.{comes_before, NotesAreOrdered, unplaced}

-- ---- tests of some element

module _ {X : Type 0} where
  record Passing (p : X → Bool) (xs : List X) : Type 0 where
    one : X
    among : Contains xs one
    passes : p one ≡ true

  any-passing : (p : X → Bool) (xs : List X) → list_any p xs ≡ true → Passing p xs
  any-passing p [] h = impossible h
  any-passing p (x ∷ xs) h = by (p x) refl (any-passing p xs) h
    where
      by : (b : Bool) → p x ≡ b → (list_any p xs ≡ true → Passing p xs) → (b || list_any p xs) ≡ true → Passing p (x ∷ xs)
      by true e more k = record { one = x; among = (0, omega arith, refl); passes = e }
      by false e more k = let o = more k in record { one = o.one; among = Contains-append_right (x ∷ []) xs o.one o.among; passes = o.passes }

  any-at : (p : X → Bool) (xs : List X) (k : ℕ) (d : X) → k < length xs → p (get_or xs k d) ≡ true → list_any p xs ≡ true
  any-at p [] k d lt h = absurd (omega arith)
  any-at p (x ∷ xs) zero d lt h = first (p x) _ h
  any-at p (x ∷ xs) (suc k) d lt h = second (p x) _ (any-at p xs k d (omega arith) h)

  any-among : (p : X → Bool) (xs : List X) (x : X) → Contains xs x → p x ≡ true → list_any p xs ≡ true
  any-among p xs x c h = any-at p xs c.0 x c.1 (ap p c.2 ∙ h)

  -- one passes both tests
  record Both (p q : X → Bool) : Type 0 where
    one : X
    left : p one ≡ true
    right : q one ≡ true

  any-kept : (p q : X → Bool) (xs : List X) → list_any q (filter p xs) ≡ true → Both p q
  any-kept p q [] h = impossible h
  any-kept p q (x ∷ xs) h = by (p x) refl (q x) refl (any-kept p q xs) h
    where
      by : (a : Bool) → p x ≡ a → (b : Bool) → q x ≡ b → (list_any q (filter p xs) ≡ true → Both p q) → list_any q (cond a (x ∷ filter p xs) (filter p xs)) ≡ true → Both p q
      by true e true f more k = record { one = x; left = e; right = f }
      by true e false f more k = more (ap (λ b. b || list_any q (filter p xs)) (sym f) ∙ k)
      by false e b f more k = more k

  any-filtered : (p q : X → Bool) → ((x : X) → q x ≡ true → p x ≡ true) → (xs : List X) → list_any q xs ≡ true → list_any q (filter p xs) ≡ true
  any-filtered p q f [] h = h
  any-filtered p q f (x ∷ xs) h = by (p x) refl (q x) refl (any-filtered p q f xs) h
    where
      by : (a : Bool) → p x ≡ a → (b : Bool) → q x ≡ b → (list_any q xs ≡ true → list_any q (filter p xs) ≡ true) → (b || list_any q xs) ≡ true
          → list_any q (cond a (x ∷ filter p xs) (filter p xs)) ≡ true
      by true e true g more k = first (q x) _ g
      by true e false g more k = second (q x) _ (more k)
      by false e true g more k = impossible (sym e ∙ f x g)
      by false e false g more k = more k

-- ---- a note is told by its way and its number

abbrev kind_of : ℕ → Kind
kind_of n =
    if nat_eq n 4 then of_integer else if nat_eq n 14 then of_names else if nat_eq n 16 then of_reference else if nat_eq n 17 then of_formats
    else if nat_eq n 18 then of_clash else if nat_eq n 19 then of_members else if nat_eq n 20 then of_subtract else of_absent

read-back : (k : Kind) → kind_of (number k) ≡ k
read-back of_integer = refl
read-back of_names = refl
read-back of_reference = refl
read-back of_formats = refl
read-back of_clash = refl
read-back of_members = refl
read-back of_subtract = refl
read-back of_absent = refl

same-kinds : (k l : Kind) → nat_eq (number k) (number l) ≡ true → k ≡ l
same-kinds k l h = sym (read-back k) ∙ ap kind_of (eqb-true (number k) (number l) h) ∙ read-back l

same-ways : (w x : Way) → same_way w x ≡ true → w ≡ x
same-ways narrowed narrowed h = refl
same-ways widened widened h = refl
same-ways narrowed widened h = impossible h
same-ways widened narrowed h = impossible h

abbrev same_note : Note → Note → Bool
same_note m n = same_way m.way n.way && nat_eq (number m.kind) (number n.kind)

same-notes : (m n : Note) → same_note m n ≡ true → m ≡ n
same-notes m n h = λ i. record { way = same-ways m.way n.way (and_left _ _ h) i; kind = same-kinds m.kind n.kind (and_right (same_way m.way n.way) _ h) i }

itself : (n : Note) → same_note n n ≡ true
itself n = λ i. way n.way i && kind n.kind i
  where
    way : (w : Way) → same_way w w ≡ true
    way narrowed = refl
    way widened = refl

    kind : (k : Kind) → nat_eq (number k) (number k) ≡ true
    kind of_integer = refl
    kind of_names = refl
    kind of_reference = refl
    kind of_formats = refl
    kind of_clash = refl
    kind of_members = refl
    kind of_subtract = refl
    kind of_absent = refl

contains : (n : Note) (ns : List Note) → list_any (same_note n) ns ≡ true → Contains ns n
contains n ns h = let o = any-passing (same_note n) ns h in subst (Contains ns) (sym (same-notes n o.one o.passes)) o.among

contained : (n : Note) (ns : List Note) → Contains ns n → list_any (same_note n) ns ≡ true
contained n ns c = any-among (same_note n) ns n c (itself n)

-- ---- all notes, in order

abbrev each_of : List Kind → List Note
each_of [] = []
each_of (k ∷ ks) = record { way = narrowed; kind = k } ∷ record { way = widened; kind = k } ∷ each_of ks

abbrev among : List Note → Note → Bool
among ns n = is_noted ns n.way n.kind

kept : (ns : List Note) (ks : List Kind) → of_kinds ns ks ≡ filter (among ns) (each_of ks)
kept ns [] = refl
kept ns (k ∷ ks) = step (is_noted ns narrowed k) (is_noted ns widened k) _ _ _ _ (kept ns ks)
  where
    step : (a b : Bool) (m n : Note) (xs ys : List Note) → xs ≡ ys → (note_if a (m ∷ []) ++ note_if b (n ∷ [])) ++ xs ≡ cond a (m ∷ cond b (n ∷ ys) ys) (cond b (n ∷ ys) ys)
    step true true m n xs ys e = ap (λ zs. m ∷ n ∷ zs) e
    step true false m n xs ys e = ap (λ zs. m ∷ zs) e
    step false true m n xs ys e = ap (λ zs. n ∷ zs) e
    step false false m n xs ys e = e

is-listed : (w : Way) (k : Kind) → list_any (same_note (record { way = w; kind = k })) (each_of kinds) ≡ true
is-listed narrowed of_integer = refl
is-listed narrowed of_names = refl
is-listed narrowed of_reference = refl
is-listed narrowed of_formats = refl
is-listed narrowed of_clash = refl
is-listed narrowed of_members = refl
is-listed narrowed of_subtract = refl
is-listed narrowed of_absent = refl
is-listed widened of_integer = refl
is-listed widened of_names = refl
is-listed widened of_reference = refl
is-listed widened of_formats = refl
is-listed widened of_clash = refl
is-listed widened of_members = refl
is-listed widened of_subtract = refl
is-listed widened of_absent = refl

abbrev Before : Note → Note → Type 0
Before m n = comes_before m n ≡ true

abbrev rises : List Note → Bool
rises [] = true
rises (n ∷ ns) = list_all (comes_before n) ns && rises ns

pairs : (ns : List Note) → rises ns ≡ true → AllPairs Before ns
pairs [] h = λ i j d lt within. absurd (omega arith)
pairs (n ∷ ns) h = AllPairs-cons Before n ns (AllPass-from_list_all (comes_before n) ns (and_left _ _ h)) (pairs ns (and_right (list_all (comes_before n) ns) _ h))

-- ---- what holds of notes in order

pub notes_are_ordered : NotesAreOrdered
notes_are_ordered ns = record {
  rise = subst (AllPairs Before) (sym (kept ns kinds)) (AllPairs-filter Before (among ns) (each_of kinds) (pairs (each_of kinds) refl));
  same = λ n. (λ c. from n (subst (λ xs. Contains xs n) (kept ns kinds) c), λ c. subst (λ xs. Contains xs n) (sym (kept ns kinds)) (onto n c));
}
  where
    from : (n : Note) → Contains (filter (among ns) (each_of kinds)) n → Contains ns n
    from n c =
        let o = any-kept (among ns) (same_note n) (each_of kinds) (contained n _ c) in
        contains n ns (ap (among ns) (same-notes n o.one o.right) ∙ o.left)

    onto : (n : Note) → Contains ns n → Contains (filter (among ns) (each_of kinds)) n
    onto n c =
        contains n _ (any-filtered (among ns) (same_note n) (λ x e. ap (among ns) (sym (same-notes n x e)) ∙ contained n ns c) (each_of kinds) (is-listed n.way n.kind))

-- a test of some note says of all notes what it says of them in order
pub any-ordered : (p : Note → Bool) (ns : List Note) → list_any p (ordered_notes ns) ≡ list_any p ns
any-ordered p ns = both_ways _ _ (λ h. over (ordered_notes ns) ns (λ n. ((notes_are_ordered ns).same n).0) h) (λ h. over ns (ordered_notes ns) (λ n. ((notes_are_ordered ns).same n).1) h)
  where
    over : (xs ys : List Note) → ((n : Note) → Contains xs n → Contains ys n) → list_any p xs ≡ true → list_any p ys ≡ true
    over xs ys f h = let o = any-passing p xs h in any-among p ys o.one (f o.one o.among) o.passes

    both_ways : (a b : Bool) → (a ≡ true → b ≡ true) → (b ≡ true → a ≡ true) → a ≡ b
    both_ways true b f g = sym (f refl)
    both_ways false true f g = g refl
    both_ways false false f g = refl

-- ---- notes that all stand at one place

-- also past the end
at-place : (l : Location) (ns : List Note) (k : ℕ) (d : PlacedNote) → unplaced (get_or (map (note_at l) ns) k d) ≡ get_or ns k (unplaced d)
at-place l [] k d = refl
at-place l (n ∷ ns) zero d = refl
at-place l (n ∷ ns) (suc k) d = at-place l ns k d

abbrev pub PlacedRise : List PlacedNote → Type 0
PlacedRise ps = AllPairs (λ a b. Before (unplaced a) (unplaced b)) ps

pub placed-rise : (l : Location) (ns : List Note) → PlacedRise (map (note_at l) (ordered_notes ns))
placed-rise l ns = λ i j d lt within.
    (λ t. comes_before (at-place l (ordered_notes ns) i d t) (at-place l (ordered_notes ns) j d t))
    ∙ (notes_are_ordered ns).rise i j (unplaced d) lt (subst (λ n. j < n) (length-map (ordered_notes ns) (note_at l)) within)
