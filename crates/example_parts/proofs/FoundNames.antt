-- By which name a field or a variant is found: the first of its names whose place in the table is its own.
use Rattle.std.proofs.Common.{◌≡◌, ℕ, zero, suc, ◌+◌, ◌<◌, List, [], ◌∷◌, ◌++◌, map, get_or, slice_get, append_assoc, Bool, true, false, cond, not, ◌&&◌, ◌||◌, Option, Some, None, bytes_eq, refl, sym, ap, ◌∙◌, arith, is_some, true≢false, ne_eqb, eq-eqb}
use Rattle.std.specs.List.{list_any}
use Rattle.std.proofs.lemmas.List.Folds.{list_any-append}
use Rattle.std.proofs.lemmas.Slice.Eq.{bytes_eq-Decides}
use Rattle.model_defs.specs.Model.{FieldModel, VariantModel}
use Rattle.name_tables.specs.Names.{Names, place_of}
use Rattle.value_models.specs.Names.{at_one_place, field_names, variant_names}
use Rattle.example_defs.specs.Built.{first_that, found_name}
use Rattle.example_parts.specs.Names.{own_names, names_of_fields, names_of_variants, names_before, name_found}
use Rattle.example_parts.specs.Places.{is_at}

abbrev has : List ℕ → List (List ℕ) → Bool
has n ns = list_any (bytes_eq n) ns

-- ---- tests

or_false : (a : Bool) → a ≡ (a || false)
or_false true = refl
or_false false = refl

or_true : (a b : Bool) → b ≡ true → (a || b) ≡ true
or_true true b h = refl
or_true false b h = h

and_false : (a b : Bool) → b ≡ false → (a && b) ≡ false
and_false true b h = h
and_false false b h = refl

or_moved : (a b c : Bool) → ((a || b) || c) ≡ (b || (a || c))
or_moved true true c = refl
or_moved true false c = refl
or_moved false true c = refl
or_moved false false c = refl

-- ---- names before a place

-- whether one of the first lists has the name
abbrev is_before : List ℕ → List (List (List ℕ)) → ℕ → Bool
is_before n nss zero = false
is_before n [] (suc i) = false
is_before n (ns ∷ nss) (suc i) = has n ns || is_before n nss i

before_is : (n : List ℕ) (earlier : List (List ℕ)) (nss : List (List (List ℕ))) (i : ℕ) → has n (names_before earlier nss i) ≡ (has n earlier || is_before n nss i)
before_is n earlier nss zero = or_false (has n earlier)
before_is n earlier [] (suc i) = or_false (has n earlier)
before_is n earlier (ns ∷ nss) (suc i) =
    before_is n (ns ++ earlier) nss i ∙ ap (λ b. b || is_before n nss i) (list_any-append (bytes_eq n) ns earlier) ∙ or_moved (has n ns) (has n earlier) (is_before n nss i)

-- ---- the table of the names

abbrev placed : ℕ → List (List (List ℕ)) → Names
placed k [] = []
placed k (ns ∷ nss) = at_one_place k ns ++ placed (suc k) nss

placed_if : (b : Bool) (k : ℕ) (ns : List (List ℕ)) → cond b [] (at_one_place k ns) ≡ at_one_place k (cond b [] ns)
placed_if true k ns = refl
placed_if false k ns = refl

fields_placed : (k : ℕ) (fs : List FieldModel) → field_names k fs ≡ placed k (names_of_fields fs)
fields_placed k [] = refl
fields_placed k (f ∷ fs) = λ i. placed_if f.is_rest k f.deserialize_names i ++ fields_placed (suc k) fs i

variants_placed : (k : ℕ) (ws : List VariantModel) → variant_names k ws ≡ placed k (names_of_variants ws)
variants_placed k [] = refl
variants_placed k (w ∷ ws) = ap (λ es. at_one_place k w.deserialize_names ++ es) (variants_placed (suc k) ws)

either_way : (a b : Bool) (i : ℕ) (o : Option ℕ) → cond a (Some i) (cond b (Some i) o) ≡ cond (a || b) (Some i) o
either_way true b i o = refl
either_way false b i o = refl

place_first : (n : List ℕ) (i : ℕ) (ns : List (List ℕ)) (es : Names) → place_of n (at_one_place i ns ++ es) ≡ cond (has n ns) (Some i) (place_of n es)
place_first n i [] es = refl
place_first n i (m ∷ ns) es =
    ap (λ o. cond (bytes_eq n m) (Some i) o) (place_first n i ns es) ∙ either_way (bytes_eq n m) (has n ns) i (place_of n es)

other_place : (j k : ℕ) (b : Bool) (o : Option ℕ) → j < k → is_at j o ≡ false → is_at j (cond b (Some k) o) ≡ false
other_place j k true o h g = ne_eqb k j (λ e. omega (arith, e, h))
other_place j k false o h g = g

not_before : (n : List ℕ) (j k : ℕ) (nss : List (List (List ℕ))) → j < k → is_at j (place_of n (placed k nss)) ≡ false
not_before n j k [] h = refl
not_before n j k (ns ∷ nss) h =
    ap (is_at j) (place_first n k ns (placed (suc k) nss))
    ∙ other_place j k (has n ns) (place_of n (placed (suc k) nss)) h (not_before n j (suc k) nss (omega (arith, h)))

here_if : (b : Bool) (k : ℕ) (o : Option ℕ) → is_at k o ≡ false → is_at k (cond b (Some k) o) ≡ (b && true)
here_if true k o h = eq-eqb k k refl
here_if false k o h = h

later_if : (b : Bool) (k i : ℕ) (o : Option ℕ) (a c : Bool) → is_at (suc k + i) o ≡ (a && not c) → is_at (suc k + i) (cond b (Some k) o) ≡ (a && not (b || c))
later_if true k i o a c h = ne_eqb k (suc k + i) (λ e. omega (arith, e)) ∙ sym (and_false a false refl)
later_if false k i o a c h = h

-- the place of a name is that of the first list that has it
place_is : (n : List ℕ) (k : ℕ) (nss : List (List (List ℕ))) (i : ℕ) → is_at (k + i) (place_of n (placed k nss)) ≡ (has n (get_or nss i []) && not (is_before n nss i))
place_is n k [] zero = refl
place_is n k [] (suc i) = refl
place_is n k (ns ∷ nss) zero =
    let none : k + 0 ≡ k = omega arith in
    ap (λ j. is_at j (place_of n (at_one_place k ns ++ placed (suc k) nss))) none ∙ ap (is_at k) (place_first n k ns (placed (suc k) nss))
    ∙ here_if (has n ns) k (place_of n (placed (suc k) nss)) (not_before n k (suc k) nss (omega arith))
place_is n k (ns ∷ nss) (suc i) =
    let more : k + suc i ≡ suc k + i = omega arith in
    ap (λ j. is_at j (place_of n (at_one_place k ns ++ placed (suc k) nss))) more ∙ ap (is_at (suc k + i)) (place_first n k ns (placed (suc k) nss))
    ∙ later_if (has n ns) k i (place_of n (placed (suc k) nss)) (has n (get_or nss i [])) (is_before n nss i) (place_is n (suc k) nss i)

-- ---- the first that passes

stands : (front : List (List ℕ)) (n : List ℕ) (ns : List (List ℕ)) → has n (front ++ n ∷ ns) ≡ true
stands [] n ns = ap (λ b. b || has n ns) ((bytes_eq-Decides n n).1 refl)
stands (m ∷ front) n ns = or_true (bytes_eq n m) (has n (front ++ n ∷ ns)) (stands front n ns)

module _ (p q : List ℕ → Bool) where
  alike : (front ns : List (List ℕ)) → ((n : List ℕ) → has n (front ++ ns) ≡ true → p n ≡ q n) → first_that p ns ≡ first_that q ns
  alike front [] h = refl
  alike front (n ∷ ns) h =
      λ i. cond (h n (stands front n ns) i) (Some n) (alike (front ++ n ∷ []) ns (λ m g. h m (ap (has m) (sym (append_assoc front (n ∷ []) ns)) ∙ g)) i)

  none_passes : (ns : List (List ℕ)) → ((n : List ℕ) → p n ≡ false) → first_that p ns ≡ None
  none_passes [] h = refl
  none_passes (n ∷ ns) h = ap (λ b. cond b (Some n) (first_that p ns)) (h n) ∙ none_passes ns h

abbrev at_its_place : ℕ → List (List (List ℕ)) → List ℕ → Bool
at_its_place i nss n = is_at i (place_of n (placed 0 nss))

-- a name of the list at a place is looked up there where no list before has it
told : (nss : List (List (List ℕ))) (i : ℕ) (n : List ℕ) → at_its_place i nss n ≡ (has n (get_or nss i []) && not (has n (names_before [] nss i)))
told nss i n =
    let none : i ≡ 0 + i = omega arith in
    ap (λ j. is_at j (place_of n (placed 0 nss))) none ∙ place_is n 0 nss i ∙ ap (λ b. has n (get_or nss i []) && not b) (sym (before_is n [] nss i))

found_there : (nss : List (List (List ℕ))) (i : ℕ) → first_that (at_its_place i nss) (get_or nss i []) ≡ name_found nss i
found_there nss i =
    alike (at_its_place i nss) (λ n. not (has n (names_before [] nss i))) [] (get_or nss i [])
    (λ n g. told nss i n ∙ ap (λ b. b && not (has n (names_before [] nss i))) g)

-- ---- what stands at a place

abbrev held : {A : Type 0} → A → Option A → A
held d None = d
held d (Some x) = x

seen_at : {A B : Type 0} (f : A → B) (xs : List A) (i : ℕ) (x : A) (d : B) → slice_get xs i ≡ Some x → get_or (map f xs) i d ≡ f x
seen_at f [] i x d h = absurd (true≢false (sym (ap is_some h)))
seen_at f (y ∷ xs) zero x d h = ap f (same h)
  where
    same : Some y ≡ Some x → y ≡ x
    same e = ap (held x) e
seen_at f (y ∷ xs) (suc i) x d h = seen_at f xs i x d h

seen_past : {A B : Type 0} (f : A → B) (xs : List A) (i : ℕ) (d : B) → None ≡ slice_get xs i → get_or (map f xs) i d ≡ d
seen_past f [] i d h = refl
seen_past f (y ∷ xs) zero d h = absurd (true≢false (sym (ap is_some h)))
seen_past f (y ∷ xs) (suc i) d h = seen_past f xs i d h

-- where the names at a place are those, or none
by_rest : (b : Bool) (nss : List (List (List ℕ))) (i : ℕ) (ns : List (List ℕ)) → get_or nss i [] ≡ cond b [] ns → first_that (at_its_place i nss) ns ≡ name_found nss i
by_rest true nss i ns h =
    none_passes (at_its_place i nss) (at_its_place i nss) ns (λ n. told nss i n ∙ ap (λ ms. has n ms && not (has n (names_before [] nss i))) h)
    ∙ ap (found_name (names_before [] nss i)) (sym h)
by_rest false nss i ns h = ap (first_that (at_its_place i nss)) (sym h) ∙ found_there nss i

pub field_there : (fs : List FieldModel) (i : ℕ) (f : FieldModel) (o : Option (List ℕ)) → Some f ≡ slice_get fs i
    → o ≡ first_that (λ n. is_at i (place_of n (field_names 0 fs))) f.deserialize_names → o ≡ name_found (names_of_fields fs) i
field_there fs i f o h e =
    e ∙ ap (λ es. first_that (λ n. is_at i (place_of n es)) f.deserialize_names) (fields_placed 0 fs)
    ∙ by_rest f.is_rest (names_of_fields fs) i f.deserialize_names (seen_at own_names fs i f [] (sym h))

pub field_nowhere : (fs : List FieldModel) (i : ℕ) → None ≡ slice_get fs i → None ≡ name_found (names_of_fields fs) i
field_nowhere fs i h = ap (found_name (names_before [] (names_of_fields fs) i)) (sym (seen_past own_names fs i [] h))

-- ---- variants

pub variant_there : (ws : List VariantModel) (i : ℕ) (w : VariantModel) (o : Option (List ℕ)) → Some w ≡ slice_get ws i
    → o ≡ first_that (λ n. is_at i (place_of n (variant_names 0 ws))) w.deserialize_names → o ≡ name_found (names_of_variants ws) i
variant_there ws i w o h e =
    e ∙ ap (λ es. first_that (λ n. is_at i (place_of n es)) w.deserialize_names) (variants_placed 0 ws)
    ∙ by_rest false (names_of_variants ws) i w.deserialize_names (seen_at (λ u. u.deserialize_names) ws i w [] (sym h))

pub variant_nowhere : (ws : List VariantModel) (i : ℕ) → None ≡ slice_get ws i → None ≡ name_found (names_of_variants ws) i
variant_nowhere ws i h = ap (found_name (names_before [] (names_of_variants ws) i)) (sym (seen_past (λ u. u.deserialize_names) ws i [] h))
