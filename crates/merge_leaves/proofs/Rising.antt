-- Names put into a set one after another, from the last.
use Rattle.std.proofs.Common.{◌≡◌, ℕ, List, [], ◌∷◌, ◌++◌, Bool, true, false, ◌||◌, map, String, Global, string_bytes, string_cmp, nat_cmp, Bor, Ordering, Less, Equal, Greater, refl, sym, ap, ◌∙◌, append_assoc, append-nil}
use Rattle.std.specs.Prelude.{if◌then◌else◌}
use Rattle.std.specs.Ordering.{is_eq, match_ordering}
use Rattle.std.specs.BTreeSet.{insert_key}
use Rattle.std.specs.Cmp.Lexicographic.{slice_cmp}
use Rattle.std.specs.List.Sorted.{IsStrictlySortedBy}
use Rattle.std.proofs.lemmas.Cmp.{nat_list_cmp_total}
use Rattle.std.proofs.lemmas.List.{map-append}
use Rattle.std.proofs.lemmas.Map.Text.{is_eq-slice_cmp}
use Rattle.enum_defs.specs.Words.{is_name}
use Rattle.merge_defs.specs.Objects.{put_before, put_name, put_names, all_names}

abbrev Names : Type 0
Names = List (String Global)

-- a key below another is none of those above that
none_above : (n : List ℕ) (k : String Global) (ks : Names) → IsStrictlySortedBy string_cmp (k ∷ ks) → slice_cmp nat_cmp n (string_bytes k) ≡ Less → is_name n (map string_bytes ks) ≡ false
unfolding IsStrictlySortedBy
none_above n k [] h e = refl
none_above n k (l ∷ ks) h e =
    let f = nat_list_cmp_total.trans n (string_bytes k) (string_bytes l) e h.0.0 in
    ap (λ b. b || is_name n (map string_bytes ks)) (sym (is_eq-slice_cmp n (string_bytes l)) ∙ ap is_eq f) ∙ none_above n l ks h.1 f

rest_sorted : (k : String Global) (ks : Names) → IsStrictlySortedBy string_cmp (k ∷ ks) → IsStrictlySortedBy string_cmp ks
unfolding IsStrictlySortedBy
rest_sorted k ks h = h.1

put_by : (o : Ordering) (n m : List ℕ) (ms : List (List ℕ)) (ins : List (List ℕ)) → slice_cmp nat_cmp n m ≡ o → (o ≡ Less → is_name n ms ≡ false) → ins ≡ put_name n ms
    → match_ordering o (n ∷ m ∷ ms) (m ∷ ms) (m ∷ ins) ≡ (if is_eq o || is_name n ms then m ∷ ms else if match_ordering o true false false then n ∷ m ∷ ms else m ∷ put_before n ms)
put_by Less n m ms ins e h k = ap (λ b. if b then m ∷ ms else n ∷ m ∷ ms) (sym (h refl))
put_by Equal n m ms ins e h k = refl
put_by Greater n m ms ins e h k = ap (λ l. m ∷ l) k ∙ go (is_name n ms)
  where
    go : (b : Bool) → ◌≡◌ {A = List (List ℕ)} (m ∷ (if b then ms else put_before n ms)) (if b then m ∷ ms else m ∷ put_before n ms)
    go true = refl
    go false = refl

matched : {X Y : Type 0} (f : X → Y) (o : Ordering) (x y z : X) → f (match_ordering o x y z) ≡ match_ordering o (f x) (f y) (f z)
matched f Less x y z = refl
matched f Equal x y z = refl
matched f Greater x y z = refl

put_is : (ks : Names) (s : String Global) → IsStrictlySortedBy string_cmp ks → map string_bytes (insert_key string_cmp ks s) ≡ put_name (string_bytes s) (map string_bytes ks)
put_is [] s h = refl
put_is (k ∷ ks) s h =
    let n = string_bytes s in
    let m = string_bytes k in
    let ms = map string_bytes ks in
    let o = slice_cmp nat_cmp n m in
    matched (map string_bytes) o (s ∷ k ∷ ks) (k ∷ ks) (k ∷ insert_key string_cmp ks s)
    ∙ put_by o n m ms (map string_bytes (insert_key string_cmp ks s)) refl (λ e. none_above n k ks h e) (put_is ks s (rest_sorted k ks h))
    ∙ ap (λ b. if b || is_name n ms then m ∷ ms else if match_ordering o true false false then n ∷ m ∷ ms else m ∷ put_before n ms) (is_eq-slice_cmp n m)

put_last : (ns : List (List ℕ)) (n : List ℕ) (ms : List (List ℕ)) → put_names (ns ++ n ∷ []) ms ≡ put_names ns (put_name n ms)
put_last [] n ms = refl
put_last (k ∷ ns) n ms = ap (put_name k) (put_last ns n ms)

put_both : (ns ms : List (List ℕ)) (ls : List (List ℕ)) → put_names (ns ++ ms) ls ≡ put_names ns (put_names ms ls)
put_both [] ms ls = refl
put_both (n ∷ ns) ms ls = ap (put_name n) (put_both ns ms ls)

-- the names of two lists are those of the one behind the other
pub all_of_two : (ns ms : List (List ℕ)) → put_names (ns ++ ms) [] ≡ all_names ns ms
all_of_two ns ms = put_both ns ms []

-- ---- a turn of the loop

abbrev pub texts : List (Bor (List ℕ)) → List (List ℕ)
texts ns = map (λ n. n.now) ns

pub one_put : (whole : List (List ℕ)) (old new : List (Bor (List ℕ))) (n : Bor (List ℕ)) (ks ls : Names) (s : String Global) → old ≡ new ++ n ∷ [] → string_bytes s ≡ n.now → IsStrictlySortedBy string_cmp ks → ls ≡ insert_key string_cmp ks s
    → put_names (map (λ n. n.now) old) (map string_bytes ks) ≡ whole → put_names (map (λ n. n.now) new) (map string_bytes ls) ≡ whole
one_put whole old new n ks ls s e t h f was =
    ap (λ zs. put_names (texts new) (map string_bytes zs)) f ∙ ap (put_names (texts new)) (put_is ks s h) ∙ ap (λ m. put_names (texts new) (put_name m (map string_bytes ks))) t
    ∙ sym (put_last (texts new) n.now (map string_bytes ks)) ∙ ap (λ zs. put_names zs (map string_bytes ks)) (sym (map-append (λ k. k.now) new (n ∷ [])) ∙ ap texts (sym e)) ∙ was

-- ---- names behind one another

pub name_pushed : (old new : List (Bor (List ℕ))) (n : Bor (List ℕ)) (s : String Global) (left : List (List ℕ)) (w : List (List ℕ)) → new ≡ old ++ n ∷ [] → n.now ≡ string_bytes s
    → map (λ n. n.now) old ++ (string_bytes s ∷ left) ≡ w → map (λ n. n.now) new ++ left ≡ w
name_pushed old new n s left w e t was =
    ap (λ ns. texts ns ++ left) e ∙ ap (λ ns. ns ++ left) (map-append (λ k. k.now) old (n ∷ [])) ∙ append_assoc (texts old) (n.now ∷ []) left ∙ ap (λ m. texts old ++ m ∷ left) t ∙ was

pub names_pushed : (old w : List (List ℕ)) (left : Names) → left ≡ [] → old ++ map string_bytes left ≡ w → old ≡ w
names_pushed old w left e was = sym (append-nil old) ∙ ap (λ ks. old ++ map string_bytes ks) (sym e) ∙ was
