-- Definitions by their names, which differ, from the last one to the first.
use Rattle.std.proofs.Common.{◌≡◌, ℕ, zero, suc, ◌+◌, ◌-◌, ◌<◌, ◌≤◌, ◌^◌, List, [], ◌∷◌, map, drop, not, true, false, bytes_eq, ◌&&◌, decimal, refl, sym, ap, ◌∙◌, arith}
use Rattle.std.specs.List.{list_all}
use Rattle.std.proofs.lemmas.Fmt.{decimal_injective}
use Rattle.std.proofs.lemmas.Slice.Eq.{bytes_eq-Decides}
use Rattle.json_value.specs.Value.{Value, Members, members}
use Rattle.model_defs.specs.Settled.{put}
use Rattle.describe_defs.specs.Plain.{stand_once}
use Rattle.describe_defs.specs.Description.{in_order}
use Rattle.describe_laws.specs.Laws.{in_map}
use Rattle.describe_laws.proofs.Puts.{maps_in_order}
use Rattle.sample_inputs.specs.Sample.{numbers_from, sample_name, sample_entry, definition_value}

-- ---- names

pub names_apart : (i j : ℕ) → i < j → j < 2 ^ 64 → bytes_eq (sample_name i) (sample_name j) ≡ false
names_apart i j h k = elim (bytes_eq (sample_name i) (sample_name j)) as (λ b. bytes_eq (sample_name i) (sample_name j) ≡ b → b ≡ false) [
  | true ↦ λ e.
      let same : decimal i ≡ decimal j = ap (drop 1) ((bytes_eq-Decides (sample_name i) (sample_name j)).0 e) in
      let equal : i ≡ j = decimal_injective i j (omega (arith, h, k)) k same in
      absurd (omega (arith, h, equal))
  | false ↦ λ e. refl
] refl

module _ {A : Type 0} (f : ℕ → A) where
  abbrev names : List ℕ → List (List ℕ)
  names is = map (λ (e : List ℕ × A). e.0) (map (λ i. (sample_name i, f i)) is)

  apart_from : (i j m : ℕ) → i < j → j + m ≤ 2 ^ 64 → list_all (λ k. not (bytes_eq (sample_name i) k)) (names (numbers_from j m)) ≡ true
  apart_from i j zero h k = refl
  apart_from i j (suc m) h k =
      let rec = apart_from i (suc j) m (omega (arith, h)) (omega (arith, k)) in
      let here = names_apart i j h (omega (arith, k)) in
      (λ t. not (here t) && list_all (λ l. not (bytes_eq (sample_name i) l)) (names (numbers_from (suc j) m))) ∙ rec

  pub names_stand_once : (i m : ℕ) → i + m ≤ 2 ^ 64 → stand_once (names (numbers_from i m)) ≡ true
  names_stand_once i zero h = refl
  names_stand_once i (suc m) h =
      let rec = names_stand_once (suc i) m (omega (arith, h)) in
      let here = apart_from i (suc i) m (omega (arith)) (omega (arith, h)) in
      (λ t. here t && stand_once (names (numbers_from (suc i) m))) ∙ rec

-- ---- the loop

pub none_put : (n : ℕ) (ms : Members) → ms ≡ members [] → ms ≡ in_map (map (sample_entry n) (numbers_from n (n - n)))
none_put n ms e = e ∙ ap (λ m. in_map (map (sample_entry n) (numbers_from n m))) (let z : 0 ≡ n - n = omega arith in z)

next_number : (n i j : ℕ) → j + 1 ≡ i → i ≤ n → numbers_from j (n - j) ≡ j ∷ numbers_from i (n - i)
next_number n i j e h =
    ap (numbers_from j) (let s : n - j ≡ suc (n - i) = omega (arith, e, h) in s)
    ∙ ap (λ k. j ∷ numbers_from k (n - i)) (let s : suc j ≡ i = omega (arith, e) in s)

pub one_before : (n i j : ℕ) (name : List ℕ) (v : Value) (old new : Members) → j + 1 ≡ i → i ≤ n → name ≡ sample_name j → v ≡ definition_value n j → new ≡ put name v old
    → old ≡ in_map (map (sample_entry n) (numbers_from i (n - i))) → new ≡ in_map (map (sample_entry n) (numbers_from j (n - j)))
one_before n i j name v old new s h e k p was =
    p ∙ (λ t. put (e t) (k t) (was t)) ∙ ap (λ ks. in_map (map (sample_entry n) ks)) (sym (next_number n i j s h))

pub all_put : (n i : ℕ) (ms : Members) → i ≡ 0 → n < 2 ^ 32 → ms ≡ in_map (map (sample_entry n) (numbers_from i (n - i))) → ms ≡ members (in_order (map (sample_entry n) (numbers_from 0 n)))
all_put n i ms e h was =
    was ∙ ap (λ k. in_map (map (sample_entry n) (numbers_from k (n - k)))) e ∙ ap (λ k. in_map (map (sample_entry n) (numbers_from 0 k))) (let z : n - 0 ≡ n = omega arith in z)
    ∙ maps_in_order (map (sample_entry n) (numbers_from 0 n)) (names_stand_once (definition_value n) 0 n (omega (arith, h)))
