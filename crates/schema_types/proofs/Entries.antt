-- A map or a set of texts that is copied in its order: each copy goes last.
use Rattle.std.proofs.Common.{◌≡◌, ℕ, List, [], ◌∷◌, ◌++◌, map, String, Global, Less, Greater, string_bytes, string_cmp, nat_cmp, refl, ap, ◌∙◌}
use Rattle.std.proofs.lemmas.Cmp.{nat_list_cmp_total}
use Rattle.std.specs.Cmp.Lexicographic.{slice_cmp}
use Rattle.std.specs.List.{AllByRecursion}
use Rattle.std.specs.List.Sorted.{IsStrictlySortedBy}
use Rattle.std.specs.Map.{keys_of}
use Rattle.std.specs.Ordering.{ordering_reverse}
use Rattle.std.specs.BTreeMap.{insert_entry}
use Rattle.std.specs.BTreeSet.{insert_key}
use Rattle.schema_types.specs.declared.schema.Schema.{Schema}
use Rattle.schema_types.specs.View.{schema_view, properties_view}

abbrev pub Entry : Type 0
Entry = String Global × Schema

-- what comes first is below what comes later
below_later : (k : String Global) (ks : List (String Global)) (j : String Global) (more : List (String Global)) → AllByRecursion (λ y. string_cmp k y ≡ Less) (ks ++ j ∷ more) → string_cmp k j ≡ Less
below_later k [] j more h = h.0
below_later k (x ∷ ks) j more h = below_later k ks j more h.1

above_first : (a b : List ℕ) → slice_cmp nat_cmp a b ≡ Less → slice_cmp nat_cmp b a ≡ Greater
above_first a b h = nat_list_cmp_total.antisymm b a ∙ ap ordering_reverse h

keys_split : (done : List Entry) (es : List Entry) → keys_of (done ++ es) ≡ keys_of done ++ keys_of es
keys_split [] es = refl
keys_split (d ∷ ds) es = ap (λ ks. d.0 ∷ ks) (keys_split ds es)

pub key_last : (cs done : List (String Global)) (k e : String Global) (more : List (String Global))
    → map string_bytes cs ≡ map string_bytes done → string_bytes k ≡ string_bytes e → IsStrictlySortedBy string_cmp (done ++ e ∷ more)
    → map string_bytes (insert_key string_cmp cs k) ≡ map string_bytes (done ++ e ∷ [])
unfolding IsStrictlySortedBy
key_last [] [] k e more h n sorted = rw n refl
key_last [] (d ∷ ds) k e more h n sorted = cc
key_last (c ∷ cs) [] k e more h n sorted = cc
key_last (c ∷ cs) (d ∷ ds) k e more h n sorted =
    let first : string_bytes c ≡ string_bytes d = cc in
    let others : map string_bytes cs ≡ map string_bytes ds = cc in
    let above : slice_cmp nat_cmp (string_bytes k) (string_bytes c) ≡ Greater = rw (n, first) (above_first (string_bytes d) (string_bytes e) (below_later d ds e more sorted.0)) in
    rw (above, first) (ap (λ t. string_bytes d ∷ t) (key_last cs ds k e more others n sorted.1))

pub entry_last : (cs done : List Entry) (k : String Global) (s : Schema) (e : Entry) (more : List Entry)
    → properties_view cs ≡ properties_view done → string_bytes k ≡ string_bytes e.0 → schema_view s ≡ schema_view e.1 → IsStrictlySortedBy string_cmp (keys_of (done ++ e ∷ more))
    → properties_view (insert_entry string_cmp cs k s) ≡ properties_view (done ++ e ∷ [])
unfolding IsStrictlySortedBy
entry_last [] [] k s e more h n v sorted = rw (n, v) refl
entry_last [] (d ∷ ds) k s e more h n v sorted = cc
entry_last (c ∷ cs) [] k s e more h n v sorted = cc
entry_last (c ∷ cs) (d ∷ ds) k s e more h n v sorted =
    let first : string_bytes c.0 ≡ string_bytes d.0 = cc in
    let seen : schema_view c.1 ≡ schema_view d.1 = cc in
    let others : properties_view cs ≡ properties_view ds = cc in
    let later = rw (keys_split ds (e ∷ more)) at sorted.0 in
    let above : slice_cmp nat_cmp (string_bytes k) (string_bytes c.0) ≡ Greater = rw (n, first) (above_first (string_bytes d.0) (string_bytes e.0) (below_later d.0 (keys_of ds) e.0 (keys_of more) later)) in
    rw (above, first, seen, entry_last cs ds k s e more others n v sorted.1) refl
