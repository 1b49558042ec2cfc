-- The first that passes a test.
use Rattle.std.proofs.Common.{◌≡◌, ℕ, suc, ◌+◌, ◌<◌, ◌≤◌, List, map, drop, drop-cons, length, get_or, Bool, true, false, Option, Some, None, sym, ap, ◌∙◌, arith}
use Rattle.std.specs.Prelude.{if◌then◌else◌}
use Rattle.std.proofs.lemmas.List.{drop_all}
use Rattle.derive_model.specs.Items.{first_from}

module _ {X Y : Type 0} (view : X → Y) (test : Y → Bool) (xs : List X) (k : ℕ) where
  module _ (x : X) (h : k < length xs) (e : x ≡ get_or xs k x) where
    next : (b : Bool) → test (view x) ≡ b → first_from test k (map view (drop k xs)) ≡ (if b then Some k else first_from test (k + 1) (map view (drop (k + 1) xs)))
    next b q =
        let later : suc k ≡ k + 1 = omega arith in
        ap (λ ys. first_from test k (map view ys)) (drop-cons xs k x h)
        ∙ ap (λ y. if test (view y) then Some k else first_from test (suc k) (map view (drop (suc k) xs))) (sym e)
        ∙ ap (λ a. if a then Some k else first_from test (suc k) (map view (drop (suc k) xs))) q
        ∙ ap (λ m. if b then Some k else first_from test m (map view (drop m xs))) later

    pub next_place : (w : Option ℕ) → test (view x) ≡ false → first_from test k (map view (drop k xs)) ≡ w → first_from test (k + 1) (map view (drop (k + 1) xs)) ≡ w
    next_place w q was = sym (next false q) ∙ was

    pub this_place : (w : Option ℕ) (told : ℕ) → told ≡ k → test (view x) ≡ true → first_from test k (map view (drop k xs)) ≡ w → Some told ≡ w
    this_place w told p q was = ap Some p ∙ sym (next true q) ∙ was

  pub no_place : (w : Option ℕ) → length xs ≤ k → first_from test k (map view (drop k xs)) ≡ w → None ≡ w
  no_place w h was = ap (λ ys. first_from test k (map view ys)) (sym (drop_all k xs h)) ∙ was
