-- Branches are open or closed as their enum is.
use Rattle.std.proofs.Common.{◌≡◌, List, [], ◌∷◌, Bool, true, false, ◌&&◌, ◌||◌, not, refl, sym, ap, ◌∙◌, true≢false}
use Rattle.std.specs.List.{list_any}
use Rattle.convert_defs.specs.Row.{Way, narrowed, widened}
use Rattle.convert_defs.specs.Laws.{Keeps, same_way}
use Rattle.convert_defs.proofs.Bare.{or_left, or_right}
use Rattle.convert_defs.proofs.PlacedShapes.{ObjectShape}

or-second : (a b : Bool) → b ≡ true → (a || b) ≡ true
or-second true b h = refl
or-second false b h = h

-- what holds of all branches holds of those past the first
pub open-rest : (c : Bool) (o : ObjectShape) (os : List ObjectShape) → (c && (not o.closed || list_any (λ o. not o.closed) os)) ≡ false → (c && list_any (λ o. not o.closed) os) ≡ false
open-rest true o os h = or_right (not o.closed) _ h
open-rest false o os h = refl

module _ (way : Way) where
  abbrev pub AllOpen : Bool → List ObjectShape → Type 0
  AllOpen c [] = Unit {0}
  AllOpen c (o ∷ os) = Keeps way (not o.closed) (not c) × AllOpen c os

  pub open-each : (c : Bool) (os : List ObjectShape) → (same_way way narrowed ≡ true → (c && list_any (λ o. not o.closed) os) ≡ false) → (list_any (λ o. o.closed) os ≡ true → c ≡ true) → AllOpen c os
  open-each c [] f g = tt
  open-each c (o ∷ os) f g = (one way o.closed refl f, open-each c os (λ z. open-rest c o os (f z)) (λ h. g (or-second o.closed (list_any (λ o. o.closed) os) h)))
    where
      one : (m : Way) (b : Bool) → o.closed ≡ b → (same_way m narrowed ≡ true → (c && (not o.closed || list_any (λ o. not o.closed) os)) ≡ false) → Keeps m (not o.closed) (not c)
      one narrowed b e f = λ t. shut t c (f refl)
        where
          shut : not o.closed ≡ true → (c : Bool) → (c && (not o.closed || list_any (λ o. not o.closed) os)) ≡ false → not c ≡ true
          shut t true h = absurd (true≢false (sym t ∙ or_left (not o.closed) _ h))
          shut t false h = refl
      one widened true e f = λ t. absurd (true≢false (sym t ∙ ap not (g (ap (λ b. b || list_any (λ o. o.closed) os) e))))
      one widened false e f = λ t. ap not e
