-- Places that are the same, branches by their places, and places inside them.
use Rattle.std.proofs.Common.{◌≡◌, ℕ, nat_eq, [], ◌∷◌, Bool, true, false, ◌&&◌, bytes_eq, refl, sym, ap, ◌∙◌}
use Rattle.std.proofs.lemmas.Bool.Decides.{Decides-eqb, same_from_decides}
use Rattle.std.proofs.lemmas.Slice.Eq.{bytes_eq-Decides}
use Rattle.std.specs.Prelude.{if◌then◌else◌}
use Rattle.std.specs.Cmp.Lexicographic.{pointwise}
use Rattle.schema_defs.specs.Location.{Step, Location, place}
use Rattle.schema_defs.proofs.Places.{place-injective}
use Rattle.schema_defs.specs.Schema.{Schema, boolean}
use Rattle.convert_defs.specs.Order.{same_place}
use Rattle.convert_walks.specs.Spot.{Branches, branch_at}

pub same_by_texts : (a b : Location) → pointwise bytes_eq a b ≡ same_place a b
same_by_texts [] [] = refl
same_by_texts [] (m ∷ b) = refl
same_by_texts (l ∷ a) [] = refl
same_by_texts (l ∷ a) (m ∷ b) = ap (λ c. bytes_eq l m && c) (same_by_texts a b)

-- ---- members of lists

equal_places : (i j : ℕ) → nat_eq i j ≡ bytes_eq (place i) (place j)
equal_places i j = same_from_decides (nat_eq i j) (bytes_eq (place i) (place j)) (Decides-eqb i j) (λ h. place-injective i j ((bytes_eq-Decides (place i) (place j)).0 h), λ h. (bytes_eq-Decides (place i) (place j)).1 (ap place h))

turned : (a b : Bool) → (a && b) ≡ (b && (a && true))
turned true true = refl
turned true false = refl
turned false true = refl
turned false false = refl

pub same_by_numbers : (k l : Step) (i j : ℕ) → (nat_eq i j && bytes_eq k l) ≡ same_place (k ∷ place i ∷ []) (l ∷ place j ∷ [])
same_by_numbers k l i j = turned (nat_eq i j) (bytes_eq k l) ∙ ap (λ c. bytes_eq k l && (c && true)) (equal_places i j)

pub other_number : (k l : Step) (i j : ℕ) → (i ≡ j → ⊥) → nat_eq i j ≡ same_place (k ∷ place i ∷ []) (l ∷ place j ∷ [])
other_number k l i j h = by (nat_eq i j) refl ∙ ap (λ b. b && bytes_eq k l) (sym (by (nat_eq i j) refl)) ∙ same_by_numbers k l i j
  where
    by : (b : Bool) → nat_eq i j ≡ b → b ≡ false
    by true e = absurd (h ((Decides-eqb i j).0 e))
    by false e = refl

-- ---- turns

pub branch_found : (k : Location) (m : Location × Schema) (ms ms' : Branches) (w s : Schema) → ms ≡ m ∷ ms' → same_place k m.0 ≡ true → branch_at k ms ≡ w → s ≡ m.1 → s ≡ w
branch_found k m ms ms' w s e h g i = i ∙ ap (λ b. if b then m.1 else branch_at k ms') (sym h) ∙ ap (branch_at k) (sym e) ∙ g

pub branch_other : (k : Location) (m : Location × Schema) (ms ms' : Branches) (w : Schema) → ms ≡ m ∷ ms' → same_place k m.0 ≡ false → branch_at k ms ≡ w → branch_at k ms' ≡ w
branch_other k m ms ms' w e h g = ap (λ b. if b then m.1 else branch_at k ms') (sym h) ∙ ap (branch_at k) (sym e) ∙ g

pub no_branch : (k : Location) (ms : Branches) (w : Schema) → ms ≡ [] → branch_at k ms ≡ w → boolean true ≡ w
no_branch k ms w e g = ap (branch_at k) (sym e) ∙ g
