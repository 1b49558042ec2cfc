-- Names that come twice: a name is looked up in the set of those before.
use Rattle.std.proofs.Common.{◌≡◌, ℕ, suc, ◌+◌, ◌<◌, ◌≤◌, ◌||◌, List, [], ◌∷◌, map, drop, drop-cons, length, get_or, Bool, true, false, not, cond, Bor, Ordering, nat_cmp, true≢false, refl, sym, ap, ◌∙◌, arith}
use Rattle.std.specs.Prelude.{bytes_eq}
use Rattle.std.specs.Cmp.Lexicographic.{slice_cmp}
use Rattle.std.specs.List.{list_any}
use Rattle.std.specs.BTreeMap.{is_at}
use Rattle.std.specs.BTreeSet.{BTreeSet, IsEmpty, contains, contains_by, Updates}
use Rattle.std.proofs.lemmas.List.{drop_all}
use Rattle.std.proofs.lemmas.Map.Text.{is_eq-slice_cmp}
use Rattle.container_defs.specs.Container.{ReadField}
use Rattle.container_defs.specs.Forms.{written_name, repeats_name}

-- ---- sets of names

abbrev pub name_cmp : Bor (List ℕ) → Bor (List ℕ) → Ordering
name_cmp m n = slice_cmp nat_cmp m.now n.now

abbrev pub has_name : BTreeSet (Bor (List ℕ)) → List ℕ → Bool
has_name s n = contains_by (λ k. slice_cmp nat_cmp n k.now) s

or_of : (b x : Bool) → cond b true x ≡ (b || x)
or_of true x = refl
or_of false x = refl

one_more : (old new : BTreeSet (Bor (List ℕ))) (name : Bor (List ℕ)) → Updates name_cmp old new name true → (n : List ℕ) → has_name new n ≡ (bytes_eq name.now n || has_name old n)
one_more old new name u n =
    let asked : Bor (List ℕ) = record { ref_ptr = (0, 0); now = n } in
    u.0 asked ∙ or_of (is_at (name_cmp name) asked) (has_name old n) ∙ ap (λ b. b || has_name old n) (is_eq-slice_cmp name.now n)

-- ---- fields beside names

-- a field has a name of the set, or a name comes twice
abbrev pub repeats_beside : BTreeSet (Bor (List ℕ)) → List ReadField → Bool
repeats_beside s fs = list_any (λ g. has_name s (written_name g)) fs || repeats_name fs

sorted_out : (a b c d : Bool) → ((a || b) || (c || d)) ≡ ((a || c) || (b || d))
sorted_out true b c d = refl
sorted_out false true true d = refl
sorted_out false true false d = refl
sorted_out false false c d = refl

either : {A : Type 0} (p q r : A → Bool) → ((a : A) → r a ≡ (p a || q a)) → (xs : List A) → list_any r xs ≡ (list_any p xs || list_any q xs)
either p q r e [] = refl
either p q r e (x ∷ xs) =
    ap (λ b. b || list_any r xs) (e x)
    ∙ ap (λ b. (p x || q x) || b) (either p q r e xs)
    ∙ sorted_out (p x) (q x) (list_any p xs) (list_any q xs)

none_of : {A : Type 0} (p : A → Bool) → ((a : A) → p a ≡ false) → (xs : List A) → list_any p xs ≡ false
none_of p e [] = refl
none_of p e (x ∷ xs) = ap (λ b. b || list_any p xs) (e x) ∙ none_of p e xs

pub none_seen : (s : BTreeSet (Bor (List ℕ))) (fs : List ReadField) → IsEmpty s → repeats_beside s fs ≡ repeats_name fs
none_seen s fs e = ap (λ b. b || repeats_name fs) (none_of (λ g. has_name s (written_name g)) (λ g. ap (λ ks. list_any (is_at (λ k. slice_cmp nat_cmp (written_name g) k.now)) ks) e) fs)

joined : (a b r : Bool) → ((b || a) || r) ≡ (a || (b || r))
joined true true r = refl
joined true false r = refl
joined false true r = refl
joined false false r = refl

not_false : (a : Bool) → not a ≡ true → a ≡ false
not_false true e = absurd (true≢false (sym e))
not_false false e = refl

not_true : (a : Bool) → not a ≡ false → a ≡ true
not_true true e = refl
not_true false e = absurd (true≢false e)

module _ {X : Type 0} (f : X → ReadField) (xs : List X) (k : ℕ) (x : X) (h : k < length xs) (e : x ≡ get_or xs k x) (old new : BTreeSet (Bor (List ℕ))) (name : Bor (List ℕ)) (named : name.now ≡ written_name (f x)) (b : Bool) (answer : b ≡ not (contains name_cmp old name)) where
  abbrev later : List ReadField
  later = map f (drop (k + 1) xs)

  split : repeats_beside old (map f (drop k xs)) ≡ repeats_beside old (f x ∷ later)
  split =
      let next : suc k ≡ k + 1 = omega arith in
      ap (λ ys. repeats_beside old (map f ys)) (drop-cons xs k x h)
      ∙ ap (λ y. repeats_beside old (map f (y ∷ drop (suc k) xs))) (sym e)
      ∙ ap (λ m. repeats_beside old (f x ∷ map f (drop m xs))) next

  there : (c : Bool) → has_name old name.now ≡ c → has_name old (written_name (f x)) ≡ c
  there c q = ap (has_name old) (sym named) ∙ q

  more : Updates name_cmp old new name true → (n : List ℕ) → has_name new n ≡ (bytes_eq (written_name (f x)) n || has_name old n)
  more u n = one_more old new name u n ∙ ap (λ m. bytes_eq m n || has_name old n) named

  pub new_seen : (w : Bool) → b ≡ true → Updates name_cmp old new name true → repeats_beside old (map f (drop k xs)) ≡ w → repeats_beside new (map f (drop (k + 1) xs)) ≡ w
  new_seen w q u was =
      let absent = there false (not_false (contains name_cmp old name) (sym answer ∙ q)) in
      ap (λ c. c || repeats_name later) (either (λ g. bytes_eq (written_name (f x)) (written_name g)) (λ g. has_name old (written_name g)) (λ g. has_name new (written_name g)) (λ g. more u (written_name g)) later)
      ∙ joined (list_any (λ g. has_name old (written_name g)) later) (list_any (λ g. bytes_eq (written_name (f x)) (written_name g)) later) (repeats_name later)
      ∙ ap (λ c. (c || list_any (λ g. has_name old (written_name g)) later) || repeats_name (f x ∷ later)) (sym absent)
      ∙ sym split
      ∙ was

  pub seen_before : (w : Bool) → b ≡ false → repeats_beside old (map f (drop k xs)) ≡ w → true ≡ w
  seen_before w q was =
      let found = there true (not_true (contains name_cmp old name) (sym answer ∙ q)) in
      ap (λ c. (c || list_any (λ g. has_name old (written_name g)) later) || repeats_name (f x ∷ later)) (sym found)
      ∙ sym split
      ∙ was

pub all_seen : {X : Type 0} (f : X → ReadField) (xs : List X) (k : ℕ) (s : BTreeSet (Bor (List ℕ))) (w : Bool) → length xs ≤ k → repeats_beside s (map f (drop k xs)) ≡ w → false ≡ w
all_seen f xs k s w h was = ap (λ ys. repeats_beside s (map f ys)) (sym (drop_all k xs h)) ∙ was
