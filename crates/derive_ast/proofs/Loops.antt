-- Loops that tell something of each element: what is told yet, and what is still to be told.
use Rattle.std.proofs.Common.{◌≡◌, ℕ, suc, ◌+◌, ◌<◌, List, ◌∷◌, ◌++◌, Bool, true, false, ◌||◌, map, drop, length, get_or, ap, sym, ◌∙◌, append_assoc, arith, drop-cons}
use Rattle.std.specs.Prelude.{Result, Ok, Err, OnErr}
use Rattle.std.specs.List.{flat_map, list_any}
use Rattle.attr_parts.specs.Diagnostics.{DiagnosticD, TellsFront}
use Rattle.attr_parts.proofs.Steps.{tells_on, tells_more, tells_all}

pub always_err : {T E : Type 0} → (r : Result T E) (P : Type 0) → P → OnErr r P
always_err (Ok x) P h = tt
always_err (Err e) P h = h

-- the next of mapped elements, and the others
pub mapped_drop : {X Y : Type 0} → (f : X → Y) (xs : List X) (i : ℕ) (x : X) → i < length xs → x ≡ get_or xs i x → map f (drop i xs) ≡ f x ∷ map f (drop (i + 1) xs)
mapped_drop f xs i x h e =
    ap (map f) (drop-cons xs i x h) ∙ ap (λ y. f y ∷ map f (drop (suc i) xs)) (sym e) ∙ ap (λ n. f x ∷ map f (drop n xs)) (let k : suc i ≡ i + 1 = omega arith in k)

-- Of all that is to be told, a front stands behind the old diagnostics, and the rest is left.
pub record IsTold (old now all rest : List DiagnosticD) : Type 0 where
  pub told : old ++ all ≡ now ++ rest
  pub front : TellsFront old now all

-- the next part is told
pub told_on : (old now new all first rest : List DiagnosticD) → IsTold old now all (first ++ rest) → new ≡ now ++ first → IsTold old new all rest
told_on old now new all first rest t e = record {
  told = t.told ∙ sym (append_assoc now first rest) ∙ ap (λ l. l ++ rest) (sym e);
  front = tells_on old now new all (first ++ rest) t.front t.told (tells_more now new first rest (tells_all now new first e));
}

-- a front of it is told
pub front_on : (old now new all first rest : List DiagnosticD) → IsTold old now all (first ++ rest) → TellsFront now new first → TellsFront old new all
front_on old now new all first rest t f = tells_on old now new all (first ++ rest) t.front t.told (tells_more now new first rest f)

-- the next part is told, and no more
pub front_told : (old now new all first rest : List DiagnosticD) → IsTold old now all (first ++ rest) → new ≡ now ++ first → TellsFront old new all
front_told old now new all first rest t e = front_on old now new all first rest t (tells_all now new first e)

-- nothing of it is told
pub front_stays : (old now new all rest : List DiagnosticD) → IsTold old now all rest → new ≡ now → TellsFront old new all
front_stays old now new all rest t e = record { front = t.front.front; rest = t.front.rest; is_new = e ∙ t.front.is_new; is_told = t.front.is_told }

-- what is left is the same by another name
pub same_left : (old now all rest other : List DiagnosticD) → IsTold old now all rest → rest ≡ other → IsTold old now all other
same_left old now all rest other t e = record { told = t.told ∙ ap (λ l. now ++ l) e; front = t.front }

-- ---- each element's, by its view

module _ {X Y : Type 0} (v : X → Y) (f : Y → List DiagnosticD) where
  abbrev pub left : ℕ → List X → List DiagnosticD
  left i xs = flat_map f (map v (drop i xs))

  pub next_left : (xs : List X) (i : ℕ) (x : X) → i < length xs → x ≡ get_or xs i x → left i xs ≡ f (v x) ++ left (i + 1) xs
  next_left xs i x h e = ap (flat_map f) (mapped_drop v xs i x h e)

-- ---- whether an element is there

module _ {X Y : Type 0} (v : X → Y) (p : Y → Bool) where
  abbrev pub among : ℕ → List X → Bool
  among i xs = list_any p (map v (drop i xs))

  pub next_among : (xs : List X) (i : ℕ) (x : X) → i < length xs → x ≡ get_or xs i x → among i xs ≡ (p (v x) || among (i + 1) xs)
  next_among xs i x h e = ap (list_any p) (mapped_drop v xs i x h e)

  pub found : (all : Bool) (xs : List X) (i : ℕ) (x : X) → i < length xs → x ≡ get_or xs i x → all ≡ among i xs → p (v x) ≡ true → true ≡ all
  found all xs i x h e a t = sym (a ∙ next_among xs i x h e ∙ ap (λ b. b || among (i + 1) xs) t)

  pub passed : (all : Bool) (xs : List X) (i : ℕ) (x : X) → i < length xs → x ≡ get_or xs i x → all ≡ among i xs → p (v x) ≡ false → all ≡ among (i + 1) xs
  passed all xs i x h e a t = a ∙ next_among xs i x h e ∙ ap (λ b. b || among (i + 1) xs) t
