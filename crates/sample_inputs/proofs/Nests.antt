-- Objects round one another, from the innermost one on; and values, one after another.
use Rattle.std.proofs.Common.{◌≡◌, ℕ, suc, ◌+◌, ◌-◌, ◌<◌, ◌≤◌, List, [], ◌∷◌, ◌++◌, map, Bool, sym, ap, ◌∙◌, append_assoc, arith}
use Rattle.std.proofs.lemmas.List.{append-nil, map-append}
use Rattle.serde_json.specs.declared.value.Value as value'
use Rattle.json_value.specs.Value.{Value}
use Rattle.json_value.specs.View.{kept_view}
use Rattle.sample_inputs.specs.Sample.{numbers_from, innermost, around, nest, sample_value}

pub first_level : (levels id : ℕ) (m : Bool) (v : Value) → v ≡ innermost (id + levels) m → v ≡ nest (levels - levels) (id + levels) m
first_level levels id m v e = e ∙ ap (λ k. nest k (id + levels) m) (let z : 0 ≡ levels - levels = omega arith in z)

pub one_round : (levels id i j : ℕ) (m : Bool) (old new : Value) → j + 1 ≡ i → i ≤ levels → new ≡ around (id + j) old → old ≡ nest (levels - i) (id + i) m → new ≡ nest (levels - j) (id + j) m
one_round levels id i j m old new s h a was =
    a ∙ ap (around (id + j)) (was ∙ ap (λ k. nest (levels - i) k m) (let e : id + i ≡ suc (id + j) = omega (arith, s) in e))
    ∙ ap (λ k. nest k (id + j) m) (let e : suc (levels - i) ≡ levels - j = omega (arith, s, h) in e)

pub all_levels : (levels id i : ℕ) (m : Bool) (v : Value) → i ≡ 0 → v ≡ nest (levels - i) (id + i) m → v ≡ nest levels id m
all_levels levels id i m v e was =
    was ∙ ap (λ k. nest k (id + i) m) (let s : levels - i ≡ levels = omega (arith, e) in s) ∙ ap (λ k. nest levels k m) (let s : id + i ≡ id = omega (arith, e) in s)

-- ---- values

pub one_value_more : (n i : ℕ) (old new : List value'.Value) (v : value'.Value) (w : List Value) → i < n → kept_view v ≡ sample_value i → new ≡ old ++ v ∷ []
    → map kept_view old ++ map sample_value (numbers_from i (n - i)) ≡ w → map kept_view new ++ map sample_value (numbers_from (i + 1) (n - (i + 1))) ≡ w
one_value_more n i old new v w h k e was =
    ap (λ vs. map kept_view vs ++ map sample_value (numbers_from (i + 1) (n - (i + 1)))) e
    ∙ ap (λ ys. ys ++ map sample_value (numbers_from (i + 1) (n - (i + 1)))) (map-append kept_view old (v ∷ []))
    ∙ append_assoc (map kept_view old) (kept_view v ∷ []) (map sample_value (numbers_from (i + 1) (n - (i + 1))))
    ∙ ap (λ z. map kept_view old ++ z ∷ map sample_value (numbers_from (i + 1) (n - (i + 1)))) k
    ∙ ap (λ z. map kept_view old ++ sample_value i ∷ map sample_value (numbers_from z (n - (i + 1)))) (let s : i + 1 ≡ suc i = omega arith in s)
    ∙ ap (λ z. map kept_view old ++ map sample_value (numbers_from i z)) (let s : suc (n - (i + 1)) ≡ n - i = omega (arith, h) in s)
    ∙ was

pub all_values : (n i : ℕ) (vs : List value'.Value) (w : List Value) → n ≤ i → map kept_view vs ++ map sample_value (numbers_from i (n - i)) ≡ w → map kept_view vs ≡ w
all_values n i vs w h was =
    sym (append-nil (map kept_view vs)) ∙ ap (λ k. map kept_view vs ++ map sample_value (numbers_from i k)) (let s : 0 ≡ n - i = omega (arith, h) in s) ∙ was
