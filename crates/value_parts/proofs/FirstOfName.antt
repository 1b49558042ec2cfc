-- The variant at the place of a name is the first that has it.
use Rattle.std.proofs.Common.{◌≡◌, ℕ, zero, suc, ◌+◌, List, [], ◌∷◌, ◌++◌, refl, subst, true≢false, is_some, sym, ap, ◌∙◌, arith, Option, Some, None, option_map, slice_get, Bool, true, false, cond, ◌||◌, bytes_eq}
use Rattle.std.specs.List.{list_any}
use Rattle.model_defs.specs.Model.{VariantModel}
use Rattle.name_tables.specs.Names.{Names, place_of}
use Rattle.value_models.specs.Names.{at_one_place, variant_names}
use Rattle.value_parts.specs.Choice.{variant_from}

abbrev held : ℕ → Option ℕ → ℕ
held d None = d
held d (Some x) = x

either_way : (a b : Bool) (i : ℕ) (o : Option ℕ) → cond a (Some i) (cond b (Some i) o) ≡ cond (a || b) (Some i) o
either_way true b i o = refl
either_way false b i o = refl

place_first : (n : List ℕ) (i : ℕ) (ns : List (List ℕ)) (es : Names) → place_of n (at_one_place i ns ++ es) ≡ cond (list_any (bytes_eq n) ns) (Some i) (place_of n es)
place_first n i [] es = refl
place_first n i (m ∷ ns) es =
    ap (λ o. cond (bytes_eq n m) (Some i) o) (place_first n i ns es) ∙ either_way (bytes_eq n m) (list_any (bytes_eq n) ns) i (place_of n es)

-- what stands so far behind a place
abbrev behind : ℕ → List VariantModel → ℕ → Option (ℕ × VariantModel)
behind i ws j = option_map (λ w. (i + j, w)) (slice_get ws j)

-- the variant is the one at a place behind the first
record IsBehind (i : ℕ) (ws : List VariantModel) (n : List ℕ) (p : ℕ) : Type 0 where
  far : ℕ
  placed : p ≡ i + far
  found_there : variant_from i ws n ≡ behind i ws far

-- the place of a name, and what is found by it
record IsFound (i : ℕ) (ws : List VariantModel) (n : List ℕ) (o : Option ℕ) : Type 0 where
  nowhere : o ≡ None → variant_from i ws n ≡ None
  there : (p : ℕ) → o ≡ Some p → IsBehind i ws n p

none_more : (k : ℕ) → k ≡ k + 0
none_more k = omega arith

one_further : (k j : ℕ) → suc k + j ≡ k + suc j
one_further k j = omega arith

module _ (i : ℕ) (w : VariantModel) (ws : List VariantModel) (n : List ℕ) where
  at_first : list_any (bytes_eq n) w.deserialize_names ≡ true → variant_from i (w ∷ ws) n ≡ Some (i, w)
  at_first e = ap (λ b. cond b (Some (i, w)) (variant_from (suc i) ws n)) e

  at_later : list_any (bytes_eq n) w.deserialize_names ≡ false → variant_from i (w ∷ ws) n ≡ variant_from (suc i) ws n
  at_later e = ap (λ b. cond b (Some (i, w)) (variant_from (suc i) ws n)) e

  here : (p : ℕ) → list_any (bytes_eq n) w.deserialize_names ≡ true → Some i ≡ Some p → IsBehind i (w ∷ ws) n p
  here p e h = record { far = 0; placed = sym (ap (held i) h) ∙ none_more i; found_there = at_first e ∙ ap (λ k. Some (k, w)) (none_more i) }

  further : (p : ℕ) → list_any (bytes_eq n) w.deserialize_names ≡ false → IsBehind (suc i) ws n p → IsBehind i (w ∷ ws) n p
  further p e r = record {
    far = suc r.far;
    placed = r.placed ∙ one_further i r.far;
    found_there = at_later e ∙ r.found_there ∙ ap (λ k. option_map (λ v. (k, v)) (slice_get ws r.far)) (one_further i r.far);
  }

  found_next : (o : Option ℕ) → IsFound (suc i) ws n o → (b : Bool) → list_any (bytes_eq n) w.deserialize_names ≡ b → IsFound i (w ∷ ws) n (cond b (Some i) o)
  found_next o rest true e = record { nowhere = λ h. absurd (true≢false (ap is_some h)); there = λ p h. here p e h }
  found_next o rest false e = record { nowhere = λ h. at_later e ∙ rest.nowhere h; there = λ p h. further p e (rest.there p h) }

found : (i : ℕ) (ws : List VariantModel) (n : List ℕ) → IsFound i ws n (place_of n (variant_names i ws))
found i [] n = record { nowhere = λ h. refl; there = λ p h. absurd (true≢false (sym (ap is_some h))) }
found i (w ∷ ws) n =
    subst (IsFound i (w ∷ ws) n) (sym (place_first n i w.deserialize_names (variant_names (suc i) ws)))
    (found_next i w ws n (place_of n (variant_names (suc i) ws)) (found (suc i) ws n) (list_any (bytes_eq n) w.deserialize_names) refl)

pub variant_nowhere : (ws : List VariantModel) (n : List ℕ) → None ≡ place_of n (variant_names 0 ws) → None ≡ variant_from 0 ws n
variant_nowhere ws n h = sym ((found 0 ws n).nowhere (sym h))

pub variant_there : (ws : List VariantModel) (n : List ℕ) (p : ℕ) (o : Option (ℕ × VariantModel)) → Some p ≡ place_of n (variant_names 0 ws) → o ≡ option_map (λ w. (p, w)) (slice_get ws p) → o ≡ variant_from 0 ws n
variant_there ws n p o h e =
    let r = (found 0 ws n).there p (sym h) in
    let k : p ≡ r.far = omega (arith, r.placed) in
    let none : r.far ≡ 0 + r.far = omega arith in
    e ∙ ap (λ q. option_map (λ w. (q, w)) (slice_get ws q)) k ∙ ap (λ q. option_map (λ w. (q, w)) (slice_get ws r.far)) none ∙ sym r.found_there
