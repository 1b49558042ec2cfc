-- What is put behind a text, part by part, and the keys of types, one behind another.
use Rattle.std.proofs.Common.{◌≡◌, ℕ, suc, ◌+◌, ◌<◌, ◌≤◌, List, ◌++◌, drop, drop-cons, length, get_or, sym, ap, ◌∙◌, append_assoc, append-nil, codes, arith}
use Rattle.std.proofs.lemmas.List.{drop_all}
use Rattle.model_defs.specs.Types.{types}
use Rattle.value_models.specs.TypeView.{type_view, types_view}
use Rattle.value_models.specs.declared.value_type.ValueType.{ValueType}
use Rattle.evolve_walks.specs.Same.{type_key, types_key}

pub two_more : (old mid new a b : List ℕ) → mid ≡ old ++ a → new ≡ mid ++ b → new ≡ old ++ (a ++ b)
two_more old mid new a b h e = e ∙ ap (λ xs. xs ++ b) h ∙ append_assoc old a b

pub three_more : (old first second new a b c : List ℕ) → first ≡ old ++ a → second ≡ first ++ b → new ≡ second ++ c → new ≡ old ++ (a ++ (b ++ c))
three_more old first second new a b c f g h = two_more first second new b c g h ∙ ap (λ xs. xs ++ (b ++ c)) f ∙ append_assoc old a (b ++ c)

pub map_more : (old mid new k v : List ℕ) → mid ≡ old ++ (codes ":" ++ k) → new ≡ mid ++ v → new ≡ old ++ (codes ":" ++ (k ++ v))
map_more old mid new k v h e = two_more old mid new (codes ":" ++ k) v h e

abbrev pub keys_of : List ValueType → List ℕ
keys_of xs = types_key (types (types_view xs))

module _ (xs : List ValueType) (i : ℕ) where
  next : (d : ValueType) → i < length xs → keys_of (drop i xs) ≡ type_key (type_view (get_or xs i d)) ++ keys_of (drop (i + 1) xs)
  next d h =
      ap keys_of (drop-cons xs i d h)
      ∙ ap (λ n. type_key (type_view (get_or xs i d)) ++ keys_of (drop n xs)) (let k : suc i ≡ i + 1 = omega arith in k)

  pub part_turn : (d : ValueType) (old new w : List ℕ) → i < length xs → new ≡ old ++ type_key (type_view (get_or xs i d))
      → old ++ keys_of (drop i xs) ≡ w → new ++ keys_of (drop (i + 1) xs) ≡ w
  part_turn d old new w h n was =
      ap (λ ts. ts ++ keys_of (drop (i + 1) xs)) n
      ∙ append_assoc old (type_key (type_view (get_or xs i d))) (keys_of (drop (i + 1) xs))
      ∙ ap (λ ts. old ++ ts) (sym (next d h))
      ∙ was

  pub parts_end : (old w : List ℕ) → length xs ≤ i → old ++ keys_of (drop i xs) ≡ w → old ≡ w
  parts_end old w h was = sym (append-nil old) ∙ ap (λ ys. old ++ keys_of ys) (sym (drop_all i xs h)) ∙ was
