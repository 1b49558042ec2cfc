-- A walk that comes back nowhere has no more locations than the document has schemas.
use Rattle.std.proofs.Common.{◌≡◌, ◌≤◌, ◌<◌, suc, List, [], ◌∷◌, Bool, true, false, Option, Some, None, ◌⊎◌, inl, inr, refl, sym, subst, ◌∙◌, arith, length, bytes_eq, filter, not, true≢false}
use Rattle.std.specs.Prelude.{◌||◌, is_some, if◌then◌else◌}
use Rattle.std.specs.Cmp.Lexicographic.{pointwise_decides}
use Rattle.std.proofs.lemmas.Slice.Eq.{bytes_eq-Decides}
use Rattle.schema_defs.specs.Location.{Location}
use Rattle.schema_defs.specs.Schema.{Schema, Document}
use Rattle.schema_defs.specs.Children.{schema_at}
use Rattle.schema_defs.specs.Walks.{IsWalkFrom, merges_at}
use Rattle.convert_defs.specs.Order.{same_place}
use Rattle.depth_laws.specs.Cycles.{HasNoCycle, WalksEnd}
use Rattle.depth_laws.proofs.AllPlaces.{Has, has-contains, document_places, as_many_as_schemas, stands_among}

-- ---- a list without one of its locations

same-is : (l m : Location) → same_place l m ≡ true → l ≡ m
same-is l m e = (pointwise_decides {E = bytes_eq} bytes_eq-Decides l m).0 e

abbrev without : Location → List Location → List Location
without l xs = filter (λ x. not (same_place l x)) xs

kept-length : (l : Location) (xs : List Location) → length (without l xs) ≤ length xs
kept-length l [] = omega (arith)
kept-length l (x ∷ xs) = by (same_place l x) (kept-length l xs)
  where
    by : (b : Bool) → length (without l xs) ≤ length xs → length (if not b then x ∷ without l xs else without l xs) ≤ suc (length xs)
    by true h = omega (arith, h)
    by false h = omega (arith, h)

shorter : (l : Location) (xs : List Location) → Has xs l → length (without l xs) < length xs
shorter l [] h = absurd h
shorter l (x ∷ xs) h = by (same_place l x) refl h (λ g. shorter l xs g)
  where
    by : (b : Bool) → same_place l x ≡ b → (x ≡ l) ⊎ Has xs l → (Has xs l → length (without l xs) < length xs) → length (if not b then x ∷ without l xs else without l xs) < suc (length xs)
    by true e g later = omega (arith, kept-length l xs)
    by false e (inl f) later = absurd (true≢false (sym ((pointwise_decides {E = bytes_eq} bytes_eq-Decides l x).1 (sym f)) ∙ e))
    by false e (inr g) later = omega (arith, later g)

still-has : (l m : Location) (xs : List Location) → (l ≡ m → ⊥) → Has xs m → Has (without l xs) m
still-has l m [] n h = absurd h
still-has l m (x ∷ xs) n h = by (same_place l x) refl h (λ g. still-has l m xs n g)
  where
    by : (b : Bool) → same_place l x ≡ b → (x ≡ m) ⊎ Has xs m → (Has xs m → Has (without l xs) m) → Has (if not b then x ∷ without l xs else without l xs) m
    by true e (inl f) later = absurd (n (same-is l x e ∙ f))
    by true e (inr g) later = later g
    by false e (inl f) later = inl f
    by false e (inr g) later = inr (later g)

-- ---- walks

module _ (d : Document) where
  stands : (l : Location) (ls : List Location) (b : Bool) → IsWalkFrom d b l ls → Has (document_places d) l
  stands l [] b h = by (schema_at d l) refl h
    where
      by : (o : Option Schema) → schema_at d l ≡ o → is_some o ≡ true → Has (document_places d) l
      by (Some t) e f = stands_among d l t e
      by None e f = absurd (true≢false (sym f))
  stands l (m ∷ ms) b h = elim h.0 [ inl g ↦ stands_among d l g.0 g.2 | inr g ↦ stands_among d l g.1.0 g.1.2 ]

  -- whatever merges before
  loosened : (b : Bool) (l : Location) (ls : List Location) → IsWalkFrom d b l ls → IsWalkFrom d true l ls
  loosened b l [] h = h
  loosened b l (m ∷ ms) h = (elim h.0 [ inl g ↦ inl g | inr g ↦ inr (refl, g.1) ], loosened (b || merges_at d l) m ms h.1)

  module _ (none : HasNoCycle d) where
    pub bounded : (l : Location) (ls : List Location) (xs : List Location) → IsWalkFrom d true l ls → ((m : Location) → Has (l ∷ ls) m → Has xs m) → suc (length ls) ≤ length xs
    bounded l [] xs h within = omega (arith, shorter l xs (within l (inl refl)))
    bounded l (m ∷ ms) xs h within =
        omega (
          arith,
          shorter l xs (within l (inl refl)),
          bounded m ms (without l xs) h.1 (λ x g. still-has l x xs (λ e. none l (m ∷ ms) h (has-contains (m ∷ ms) l (subst (λ y. Has (m ∷ ms) y) (sym e) g))) (within x (inr g))),
        )

  pub all-stand : (l : Location) (ls : List Location) → IsWalkFrom d true l ls → (m : Location) → Has (l ∷ ls) m → Has (document_places d) m
  all-stand l ls h m (inl e) = subst (λ x. Has (document_places d) x) e (stands l ls true h)
  all-stand l [] h m (inr g) = absurd g
  all-stand l (k ∷ ks) h m (inr g) = all-stand k ks h.1 m g

pub walks_end : WalksEnd
walks_end d none [] h = absurd h
walks_end d none (l ∷ ls) h =
    let w : IsWalkFrom d true l ls = loosened d false l ls h in
    omega (arith, bounded d none l ls (document_places d) w (all-stand d l ls w), as_many_as_schemas d)
