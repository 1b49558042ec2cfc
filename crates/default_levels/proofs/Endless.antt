-- How many of some stated defaults haven't come to an end: with more levels fewer, and where as many, the same.
use Rattle.std.proofs.Common.{◌≡◌, ◌≤◌, ℕ, ◌+◌, List, [], ◌∷◌, length, refl, sym, subst, arith}
use Rattle.json_value.specs.Value.{Value}
use Rattle.entry_defs.specs.Entry.{Entry}
use Rattle.default_defs.specs.Found.{Found, refused, ended, endless}
use Rattle.default_levels.proofs.Stays.{StaysAs}
use Rattle.default_levels.proofs.Pairs.{Stated, Each}

abbrev pub endless_as : Found → ℕ
endless_as refused = 0
endless_as ended = 0
endless_as endless = 1

abbrev pub endless_in : (Entry → Value → Found) → List Stated → ℕ
endless_in x [] = 0
endless_in x (p ∷ ps) = endless_as (x p.0 p.1) + endless_in x ps

one_at_most : (a : Found) → endless_as a ≤ 1
one_at_most refused = omega arith
one_at_most ended = omega arith
one_at_most endless = omega arith

pub at_most : (x : Entry → Value → Found) (ps : List Stated) → endless_in x ps ≤ length ps
at_most x [] = omega arith
at_most x (p ∷ ps) = omega (arith, one_at_most (x p.0 p.1), at_most x ps)

one_fewer : (a b : Found) → StaysAs a b → endless_as b ≤ endless_as a
one_fewer refused b h = subst (λ z. endless_as z ≤ 0) (sym h) (omega arith)
one_fewer ended b h = subst (λ z. endless_as z ≤ 0) (sym h) (omega arith)
one_fewer endless b h = one_at_most b

one_same : (a b : Found) → StaysAs a b → endless_as a ≤ endless_as b → a ≡ b
one_same refused b h l = sym h
one_same ended b h l = sym h
one_same endless refused h l = absurd (omega (arith, l))
one_same endless ended h l = absurd (omega (arith, l))
one_same endless endless h l = refl

module _ (x y : Entry → Value → Found) (stays : (e : Entry) (v : Value) → StaysAs (x e v) (y e v)) where
  fewer : (ps : List Stated) → endless_in y ps ≤ endless_in x ps
  fewer [] = omega arith
  fewer (p ∷ ps) = omega (arith, one_fewer (x p.0 p.1) (y p.0 p.1) (stays p.0 p.1), fewer ps)

  pub same_where_as_many : (ps : List Stated) → endless_in x ps ≤ endless_in y ps → Each (λ e v. x e v ≡ y e v) ps
  same_where_as_many [] l = tt
  same_where_as_many (p ∷ ps) l =
      let a = one_fewer (x p.0 p.1) (y p.0 p.1) (stays p.0 p.1) in
      let b = fewer ps in
      (one_same (x p.0 p.1) (y p.0 p.1) (stays p.0 p.1) (omega (arith, l, a, b)), same_where_as_many ps (omega (arith, l, a, b)))
