-- What stands outside `properties`.
use Rattle.std.proofs.Common.{◌≡◌, ℕ, suc, List, [], ◌∷◌, ◌++◌, length, map, filter, Bool, true, false, ◌&&◌, not, cond, Option, Some, None, refl, arith}
use Rattle.std.specs.Prelude.{◌↔◌, IsTrue, if◌then◌else◌}
use Rattle.schema_defs.specs.Schema.{MaybeSchema, Properties}
use Rattle.schema_defs.specs.Layer.{property_at, is_given}
use Rattle.convert_defs.specs.Row.{OutsideRow}
use Rattle.convert_defs.specs.Owners.{outside_names, outside_row, other_part, keeps_rest, is_empty}

no_more_than_none : (n : ℕ) → suc n ≡ 0 → ⊥
no_more_than_none n h = omega arith

pub none_there : {X Y : Type 0} (f : X → Y) (b : Bool) (xs : List X) → (IsTrue b ↔ (length xs ≡ 0)) → b ≡ is_empty (map f xs)
none_there f b [] h = h.1 refl
none_there f true (x ∷ xs) h = absurd (no_more_than_none (length xs) (h.0 refl))
none_there f false (x ∷ xs) h = refl

pub outside_step : (props : Properties) (n : List ℕ) (ns : List (List ℕ))
    → outside_names props (n ∷ ns) ≡ (if not (is_given (property_at n props)) then n ∷ [] else []) ++ outside_names props ns
outside_step props n ns = by (not (is_given (property_at n props)))
  where
    by : (b : Bool) → cond b (n ∷ outside_names props ns) (outside_names props ns) ≡ (if b then n ∷ [] else []) ++ outside_names props ns
    by true = refl
    by false = refl

abbrev row_of : List (List ℕ) → MaybeSchema → Bool → Option OutsideRow
row_of ns rest keeps = Some (record { names = ns; part = other_part rest; keeps_rest = keeps })

pub outside_seen : (ns : List (List ℕ)) (rest : MaybeSchema) → outside_row ns rest ≡ (if is_empty ns && not (keeps_rest rest) then None else row_of ns rest (keeps_rest rest))
outside_seen [] rest = by (keeps_rest rest)
  where
    by : (b : Bool) → (if b then row_of [] rest true else None) ≡ (if not b then None else row_of [] rest b)
    by true = refl
    by false = refl
outside_seen (n ∷ ns) rest = refl
