-- Patterns compared, and each once: a text is looked up in the set of those before.
use Rattle.std.proofs.Common.{◌≡◌, ℕ, ◌+◌, ◌<◌, ◌≤◌, ◌&&◌, ◌||◌, List, [], ◌∷◌, ◌++◌, map, drop, length, get_or, Bool, true, false, not, cond, Bor, Ordering, nat_cmp, String, Global, string_bytes, true≢false, refl, sym, ap, ◌∙◌, append_assoc, append-nil}
use Rattle.std.specs.Prelude.{bytes_eq, filter}
use Rattle.std.specs.Cmp.Lexicographic.{slice_cmp, pointwise}
use Rattle.std.specs.List.{list_any}
use Rattle.std.specs.String.{string_eq}
use Rattle.std.specs.BTreeMap.{is_at}
use Rattle.std.specs.BTreeSet.{BTreeSet, IsEmpty, contains, contains_by, Updates}
use Rattle.std.proofs.lemmas.List.{drop_all, get_or_default, map_push}
use Rattle.std.proofs.lemmas.Map.Text.{is_eq-slice_cmp}
use Rattle.std.proofs.lemmas.Slice.Eq.{bytes_eq-Decides}
use Rattle.merge_defs.specs.Leaves.{each_once}
use Rattle.schema_defs.proofs.Turns.{mapped_drop}

pub pointwise_of_texts : (ss ts : List (String Global)) → pointwise string_eq ss ts ≡ pointwise bytes_eq (map string_bytes ss) (map string_bytes ts)
pointwise_of_texts [] [] = refl
pointwise_of_texts [] (t ∷ ts) = refl
pointwise_of_texts (s ∷ ss) [] = refl
pointwise_of_texts (s ∷ ss) (t ∷ ts) = ap (λ b. string_eq s t && b) (pointwise_of_texts ss ts)

-- ---- sets of texts

abbrev pub text_cmp : Bor (List ℕ) → Bor (List ℕ) → Ordering
text_cmp m n = slice_cmp nat_cmp m.now n.now

abbrev pub has_text : BTreeSet (Bor (List ℕ)) → List ℕ → Bool
has_text s n = contains_by (λ k. slice_cmp nat_cmp n k.now) s

or_of : (b x : Bool) → cond b true x ≡ (b || x)
or_of true x = refl
or_of false x = refl

one_more : (old new : BTreeSet (Bor (List ℕ))) (name : Bor (List ℕ)) → Updates text_cmp old new name true → (n : List ℕ) → has_text new n ≡ (bytes_eq name.now n || has_text old n)
one_more old new name u n =
    let asked : Bor (List ℕ) = record { ref_ptr = (0, 0); now = n } in
    u.0 asked ∙ or_of (is_at (text_cmp name) asked) (has_text old n) ∙ ap (λ b. b || has_text old n) (is_eq-slice_cmp name.now n)

-- ---- those that are left, each once, without those that were seen

abbrev pub fresh : BTreeSet (Bor (List ℕ)) → List (List ℕ) → List (List ℕ)
fresh s ns = filter (λ n. not (has_text s n)) (each_once ns)

all_pass : {A : Type 0} (p : A → Bool) → ((a : A) → p a ≡ true) → (xs : List A) → filter p xs ≡ xs
all_pass p e [] = refl
all_pass p e (x ∷ xs) = ap (λ b. cond b (x ∷ filter p xs) (filter p xs)) (e x) ∙ ap (λ ys. x ∷ ys) (all_pass p e xs)

-- a filter after another
filtered_twice : {A : Type 0} (p q r : A → Bool) → ((a : A) → r a ≡ (q a && p a)) → (xs : List A) → filter p (filter q xs) ≡ filter r xs
filtered_twice p q r e [] = refl
filtered_twice p q r e (x ∷ xs) =
    by (q x) (p x) refl (filtered_twice p q r e xs) ∙ ap (λ b. cond b (x ∷ filter r xs) (filter r xs)) (sym (e x))
  where
    by : (a b : Bool) → p x ≡ b → filter p (filter q xs) ≡ filter r xs → filter p (cond a (x ∷ filter q xs) (filter q xs)) ≡ cond (a && b) (x ∷ filter r xs) (filter r xs)
    by true true h k = ap (λ c. cond c (x ∷ filter p (filter q xs)) (filter p (filter q xs))) h ∙ ap (λ ys. x ∷ ys) k
    by true false h k = ap (λ c. cond c (x ∷ filter p (filter q xs)) (filter p (filter q xs))) h ∙ k
    by false b h k = k

pub none_seen : (s : BTreeSet (Bor (List ℕ))) (ns : List (List ℕ)) → IsEmpty s → fresh s ns ≡ each_once ns
none_seen s ns e = all_pass (λ n. not (has_text s n)) (λ n. ap (λ ks. not (list_any (is_at (λ k. slice_cmp nat_cmp n k.now)) ks)) e) (each_once ns)

not_either : (a b : Bool) → not (a || b) ≡ (not a && not b)
not_either true b = refl
not_either false b = refl

not_false : (a : Bool) → not a ≡ true → a ≡ false
not_false true e = absurd (true≢false (sym e))
not_false false e = refl

not_true : (a : Bool) → not a ≡ false → a ≡ true
not_true true e = refl
not_true false e = absurd (true≢false e)

-- what was seen isn't another text
seen_apart : (s : BTreeSet (Bor (List ℕ))) (m n : List ℕ) → has_text s m ≡ true → not (has_text s n) ≡ (not (bytes_eq m n) && not (has_text s n))
seen_apart s m n h = go (bytes_eq m n) refl
  where
    go : (b : Bool) → bytes_eq m n ≡ b → not (has_text s n) ≡ (not b && not (has_text s n))
    go true e = ap (λ k. not (has_text s k)) (sym ((bytes_eq-Decides m n).0 e)) ∙ ap not h
    go false e = refl

fresh_new : (old new : BTreeSet (Bor (List ℕ))) (m : List ℕ) (ms : List (List ℕ)) → has_text old m ≡ false → ((n : List ℕ) → has_text new n ≡ (bytes_eq m n || has_text old n))
    → fresh old (m ∷ ms) ≡ m ∷ fresh new ms
fresh_new old new m ms h u =
    ap (λ b. cond (not b) (m ∷ filter (λ n. not (has_text old n)) (filter (λ n. not (bytes_eq m n)) (each_once ms))) (filter (λ n. not (has_text old n)) (filter (λ n. not (bytes_eq m n)) (each_once ms)))) h
    ∙ ap (λ ks. m ∷ ks) (filtered_twice (λ n. not (has_text old n)) (λ n. not (bytes_eq m n)) (λ n. not (has_text new n)) (λ n. ap not (u n) ∙ not_either (bytes_eq m n) (has_text old n)) (each_once ms))

fresh_old : (s : BTreeSet (Bor (List ℕ))) (m : List ℕ) (ms : List (List ℕ)) → has_text s m ≡ true → fresh s (m ∷ ms) ≡ fresh s ms
fresh_old s m ms h =
    ap (λ b. cond (not b) (m ∷ filter (λ n. not (has_text s n)) (filter (λ n. not (bytes_eq m n)) (each_once ms))) (filter (λ n. not (has_text s n)) (filter (λ n. not (bytes_eq m n)) (each_once ms)))) h
    ∙ filtered_twice (λ n. not (has_text s n)) (λ n. not (bytes_eq m n)) (λ n. not (has_text s n)) (λ n. seen_apart s m n h) (each_once ms)

-- ---- a turn of the loop

abbrev text : Bor (List ℕ) → List ℕ
text n = n.now

at_itself : (xs : List (Bor (List ℕ))) (k : ℕ) (d : Bor (List ℕ)) → k < length xs → get_or xs k d ≡ get_or xs k (get_or xs k d)
at_itself xs k d h = get_or_default xs k d (get_or xs k d) h

-- the element is read at some default
pub new_seen : (xs : List (Bor (List ℕ))) (k : ℕ) (d : Bor (List ℕ)) (old new : BTreeSet (Bor (List ℕ))) (b : Bool) (before after : List (String Global)) (w : List (List ℕ)) (s : String Global)
    → k < length xs → b ≡ not (contains text_cmp old (get_or xs k d)) → b ≡ true → Updates text_cmp old new (get_or xs k d) true → string_bytes s ≡ (get_or xs k d).now → after ≡ before ++ s ∷ []
    → map string_bytes before ++ fresh old (map (λ n. n.now) (drop k xs)) ≡ w → map string_bytes after ++ fresh new (map (λ n. n.now) (drop (k + 1) xs)) ≡ w
new_seen xs k d old new b before after w s h answer q u t p was =
    let rest = map text (drop (k + 1) xs) in
    let x = get_or xs k d in
    ap (λ ys. map string_bytes ys ++ fresh new rest) p
    ∙ ap (λ ys. ys ++ fresh new rest) (map_push string_bytes before s)
    ∙ ap (λ y. (map string_bytes before ++ y ∷ []) ++ fresh new rest) t
    ∙ append_assoc (map string_bytes before) (x.now ∷ []) (fresh new rest)
    ∙ ap (λ ys. map string_bytes before ++ ys) (sym (fresh_new old new x.now rest (not_false (contains text_cmp old x) (sym answer ∙ q)) (one_more old new x u)))
    ∙ ap (λ ys. map string_bytes before ++ fresh old ys) (sym (mapped_drop text xs k x h (at_itself xs k d h)))
    ∙ was

pub seen_before : (xs : List (Bor (List ℕ))) (k : ℕ) (d : Bor (List ℕ)) (old new : BTreeSet (Bor (List ℕ))) (b : Bool) (before after : List (String Global)) (w : List (List ℕ))
    → k < length xs → b ≡ not (contains text_cmp old (get_or xs k d)) → b ≡ false → new.keys ≡ old.keys → after ≡ before
    → map string_bytes before ++ fresh old (map (λ n. n.now) (drop k xs)) ≡ w → map string_bytes after ++ fresh new (map (λ n. n.now) (drop (k + 1) xs)) ≡ w
seen_before xs k d old new b before after w h answer q u p was =
    let rest = map text (drop (k + 1) xs) in
    let x = get_or xs k d in
    ap (λ ys. map string_bytes ys ++ fresh new rest) p
    ∙ ap (λ ks. map string_bytes before ++ filter (λ n. not (list_any (is_at (λ k. slice_cmp nat_cmp n k.now)) ks)) (each_once rest)) u
    ∙ ap (λ ys. map string_bytes before ++ ys) (sym (fresh_old old x.now rest (not_true (contains text_cmp old x) (sym answer ∙ q))))
    ∙ ap (λ ys. map string_bytes before ++ fresh old ys) (sym (mapped_drop text xs k x h (at_itself xs k d h)))
    ∙ was

pub all_seen : (xs : List (Bor (List ℕ))) (k : ℕ) (s : BTreeSet (Bor (List ℕ))) (kept w : List (List ℕ)) → length xs ≤ k → kept ++ fresh s (map (λ n. n.now) (drop k xs)) ≡ w → kept ≡ w
all_seen xs k s kept w h was = sym (append-nil kept) ∙ ap (λ ys. kept ++ fresh s (map text ys)) (sym (drop_all k xs h)) ∙ was
