-- Lists that are read item by item.
use Rattle.std.proofs.Common.{◌≡◌, ℕ, ◌+◌, ◌<◌, length, get_or, drop, add-one, drop-cons, List, [], ◌∷◌, ◌++◌, map, append_assoc, Option, Some, None, option_map, Ordering, Less, Equal, Greater, String, Global, string_bytes, string_cmp, true, refl, sym, ap, ◌∙◌}
use Rattle.std.specs.Prelude.{if◌then◌else◌}
use Rattle.std.specs.BTreeSet.{insert_key}
use Rattle.std.specs.Ordering.{match_ordering}
use Rattle.serde_json.specs.View.{view, items_view}
use Rattle.serde_json.specs.declared.value.Value.{Value as Read}
use Rattle.json_value.specs.View.{value_of, items_of, kept_view}
use Rattle.json_value.specs.Value.{Value, list, item, values, is_whole}
use Rattle.schema_defs.specs.Read.{◌⊛◌, kept_list, name_set, with_name}

-- the item at an index, and the others
pub items_at : (vs : List Read) (i : ℕ) (x : Read) → i < length vs → x ≡ get_or vs i x → items_of (items_view (drop i vs)) ≡ item (value_of (view x)) (items_of (items_view (drop (i + 1) vs)))
items_at vs i x h e =
    ap (λ ys. items_of (items_view ys)) (drop-cons vs i x h) ∙ (λ t. item (value_of (view (sym e t))) (items_of (items_view (drop (sym (add-one i) t) vs))))

-- what was read, and then what is left
abbrev pub onto : {A : Type 0} → List A → Option (List A) → Option (List A)
onto done o = option_map (λ xs. done ++ xs) o

pub onto_next : {A : Type 0} (done : List A) (a : A) (o : Option (List A)) → onto done (Some (λ x xs. x ∷ xs) ⊛ Some a ⊛ o) ≡ onto (done ++ a ∷ []) o
onto_next done a None = refl
onto_next done a (Some xs) = ap Some (sym (append_assoc done (a ∷ []) xs))

pub onto_lost : {A : Type 0} (done : List A) (o : Option (List A)) → let lost : Option A = None in onto done (Some (λ x xs. x ∷ xs) ⊛ lost ⊛ o) ≡ None
onto_lost done None = refl
onto_lost done (Some xs) = refl

-- ---- values that are kept

values_are : (xs : List Read) → values (items_of (items_view xs)) ≡ map kept_view xs
values_are [] = refl
values_are (x ∷ xs) = ap (λ vs. kept_view x ∷ vs) (values_are xs)

pub kept_values : (v : Value) (xs : List Read) → v ≡ list (items_of (items_view xs)) → is_whole v ≡ true → kept_list v ≡ Some (map kept_view xs)
kept_values v xs e w = ap kept_list e ∙ (λ i. if (ap is_whole (sym e) ∙ w) i then Some (values_are xs i) else None)

-- ---- names

abbrev pub with_names : List (List ℕ) → List (List ℕ) → List (List ℕ)
with_names [] s = s
with_names (n ∷ ns) s = with_name n (with_names ns s)

pub name_set_is : (ns : List (List ℕ)) → name_set ns ≡ with_names ns []
name_set_is [] = refl
name_set_is (n ∷ ns) = ap (with_name n) (name_set_is ns)

pub with_last : (ns : List (List ℕ)) (n : List ℕ) (s : List (List ℕ)) → with_names (ns ++ n ∷ []) s ≡ with_names ns (with_name n s)
with_last [] n s = refl
with_last (m ∷ ns) n s = ap (with_name m) (with_last ns n s)

pub inserted : (ks : List (String Global)) (k : String Global) → map string_bytes (insert_key string_cmp ks k) ≡ with_name (string_bytes k) (map string_bytes ks)
inserted [] k = refl
inserted (x ∷ xs) k = by_order (string_cmp k x) (insert_key string_cmp xs k) (with_name (string_bytes k) (map string_bytes xs)) (inserted xs k)
  where
    by_order : (o : Ordering) (ks : List (String Global)) (ns : List (List ℕ)) → map string_bytes ks ≡ ns → map string_bytes (match_ordering o (k ∷ x ∷ xs) (x ∷ xs) (x ∷ ks))
        ≡ match_ordering o (string_bytes k ∷ string_bytes x ∷ map string_bytes xs) (string_bytes x ∷ map string_bytes xs) (string_bytes x ∷ ns)
    by_order Less ks ns h = refl
    by_order Equal ks ns h = refl
    by_order Greater ks ns h = ap (λ ns. string_bytes x ∷ ns) h
