-- The table of a space: at the target of an id stands what the entry there is.
use Rattle.std.proofs.Common.{◌≡◌, ℕ, zero, suc, ◌+◌, List, [], ◌∷◌, Bool, true, false, Some, option_map, refl, ap, ◌∙◌, bytes_eq, arith}
use Rattle.std.specs.Prelude.{if◌then◌else◌}
use Rattle.std.proofs.lemmas.Slice.Eq.{bytes_eq-Decides}
use Rattle.entry_defs.specs.Space.{Id, Space, entry_at}
use Rattle.entry_defs.specs.Table.{same_target, found, target_item}
use Rattle.entry_laws.specs.Ids.{id_target, held_at, targets_from, table_at}

abbrev head-of : List ℕ → ℕ
head-of [] = zero
head-of (x ∷ xs) = x

same-id : (i j : Id) → i ≡ j → same_target (id_target i) (id_target j) ≡ true
same-id i j e = (bytes_eq-Decides (i ∷ []) (j ∷ [])).1 (ap (λ k. k ∷ []) e)

other-id : (i j : Id) → (i ≡ j → ⊥) → same_target (id_target i) (id_target j) ≡ false
other-id i j d = by (bytes_eq (i ∷ []) (j ∷ [])) refl
  where
    by : (b : Bool) → bytes_eq (i ∷ []) (j ∷ []) ≡ b → b ≡ false
    by true e = absurd (d (ap head-of ((bytes_eq-Decides (i ∷ []) (j ∷ [])).0 e)))
    by false e = refl

-- from the place of the first on
found-from : (k i : ℕ) (s : Space) → found (id_target (i + k)) (targets_from k s) ≡ option_map held_at (entry_at s i)
found-from k i [] = refl
found-from k zero (x ∷ xs) =
    let e : 0 + k ≡ k = omega arith in
    ap (λ b. if b then Some (held_at x) else found (id_target (0 + k)) (targets_from (suc k) xs)) (same-id (0 + k) k e)
found-from k (suc i) (x ∷ xs) =
    let rec = found-from (suc k) i xs in
    let e : suc i + k ≡ i + suc k = omega arith in
    ap (λ b. if b then Some (held_at x) else found (id_target (suc i + k)) (targets_from (suc k) xs)) (other-id (suc i + k) k (λ h. omega (arith, h)))
    ∙ ap (λ n. found (id_target n) (targets_from (suc k) xs)) e ∙ rec

pub item-at : (s : Space) (i : Id) → target_item (table_at s) (id_target i) ≡ option_map held_at (entry_at s i)
item-at s i = let e : i ≡ i + 0 = omega arith in ap (λ n. found (id_target n) (targets_from 0 s)) e ∙ found-from 0 i s
