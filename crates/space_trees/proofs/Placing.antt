-- The id that entering an entry gives is that of the first entry of its key.
use Rattle.std.proofs.Common.{◌≡◌, ℕ, List, None, zero, suc, [], ◌∷◌, Bool, true, false, refl, sym, ap, ◌∙◌, true≢false}
use Rattle.std.specs.Prelude.{if◌then◌else◌}
use Rattle.std.specs.List.{AllByRecursion, IsDistinct}
use Rattle.entry_defs.specs.Space.{Id, newtype_shape_at, EntryAt, item_at, Space, entry_at}
use Rattle.entry_space.specs.Keys.{same_key, has_key, no_shape}
use Rattle.entry_space.specs.Entered.{entered, filled}
use Rattle.entry_space.proofs.Keys.{same-decides}
use Rattle.space_trees.specs.Placed.{place_of, put, opened}

-- an entry apart from all others is none of them
apart-from : (e x : EntryAt) (xs : Space) (i : Id) → AllByRecursion (λ f. same_key x f ≡ false) xs → has_key e (entry_at xs i) ≡ true → same_key e x ≡ false
apart-from e x [] i d h = absurd (true≢false (sym h))
apart-from e x (y ∷ ys) zero d h = by (same_key e x) refl
  where
    by : (b : Bool) → same_key e x ≡ b → same_key e x ≡ false
    by false q = q
    by true q = absurd (true≢false (sym ((same-decides x y).1 (sym ((same-decides e x).0 q) ∙ (same-decides e y).0 h)) ∙ d.0))
apart-from e x (y ∷ ys) (suc i) d h = apart-from e x ys i d.1 h

place-once : (e : EntryAt) (s : Space) (i : Id) → IsDistinct same_key s → has_key e (entry_at s i) ≡ true → place_of e s ≡ i
unfolding IsDistinct
place-once e [] i d h = absurd (true≢false (sym h))
place-once e (x ∷ xs) zero d h = ap (λ b. if b then zero else suc (place_of e xs)) h
place-once e (x ∷ xs) (suc i) d h = ap (λ b. if b then zero else suc (place_of e xs)) (apart-from e x xs i d.0 h) ∙ ap suc (place-once e xs i d.1 h)

pub put_is : (e : EntryAt) (old new : Space) (i : Id) → new ≡ entered e old → has_key e (entry_at new i) ≡ true → IsDistinct same_key new → put e old ≡ (new, i)
unfolding put
put_is e old new i made there d = ap (λ t. (t, place_of e t)) (sym made) ∙ ap (λ j. (new, j)) (place-once e new i d there)

-- ---- items that are opened

abbrev open-at : Space × Id → Space × Id
open-at p = (filled p.1 (newtype_shape_at p.1 None) p.0, p.1)

pub opened_by : (n m : List ℕ) (s t u : Space) (i : Id) → m ≡ n → put (item_at m no_shape) s ≡ (t, i) → u ≡ filled i (newtype_shape_at i None) t → opened n s ≡ (u, i)
unfolding opened
opened_by n m s t u i d h f = ap (λ l. open-at (put (item_at l no_shape) s)) (sym d) ∙ ap open-at h ∙ ap (λ (z : Space). (z, i)) (sym f)
