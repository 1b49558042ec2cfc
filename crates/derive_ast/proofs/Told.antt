-- What is told of the first of several, and of the others.
use Rattle.std.proofs.Common.{◌≡◌, ℕ, suc, ◌+◌, ◌<◌, List, [], ◌∷◌, ◌++◌, Bool, true, false, map, drop, length, get_or, refl, ap, sym, ◌∙◌, append-nil, arith, nat_eq, ◌-◌}
use Rattle.std.proofs.lemmas.Bool.Decides.{nat_tests}
use Rattle.std.proofs.lemmas.List.{length-map, length-drop}
use Rattle.std.specs.Prelude.{Option}
use Rattle.attr_defs.specs.Container.{ContainerAttrs}
use Rattle.container_defs.specs.Checks.{case_told, identifier_told, first_default, order_by, default_order_from}
use Rattle.container_defs.specs.Container.{ReadField, ReadVariant}
use Rattle.derive_ast.proofs.Loops.{mapped_drop}

abbrev pub is_end : {A : Type 0} → List A → Bool
is_end [] = true
is_end (a ∷ xs) = false

pub first_identifier : (c : ContainerAttrs) (v : ReadVariant) (vs : List ReadVariant) → identifier_told c (v ∷ vs) ≡ case_told c (is_end vs) v ++ identifier_told c vs
first_identifier c v [] = sym (append-nil (case_told c true v))
first_identifier c v (w ∷ vs) = refl

-- in a loop over fields
pub next_order : {X : Type 0} (v : X → ReadField) (xs : List X) (first : Option ℕ) (i : ℕ) (x : X) → i < length xs → x ≡ get_or xs i x
    → default_order_from first i (map v (drop i xs)) ≡ order_by first (v x) ++ default_order_from (first_default first i (v x)) (i + 1) (map v (drop (i + 1) xs))
next_order v xs first i x h e =
    ap (default_order_from first i) (mapped_drop v xs i x h e)
    ∙ ap (λ n. order_by first (v x) ++ default_order_from (first_default first i (v x)) n (map v (drop (i + 1) xs))) (let k : suc i ≡ i + 1 = omega arith in k)

end_by_length : {A : Type 0} (xs : List A) → is_end xs ≡ nat_eq (length xs) 0
end_by_length [] = refl
end_by_length (a ∷ xs) = grind (arith, nat_tests)

at_end : (n i : ℕ) → i < n → nat_eq (n - (i + 1)) 0 ≡ nat_eq (i + 1) n
at_end n i h = grind (arith, nat_tests)

-- the last one of several
pub last_by_length : {X Y : Type 0} (v : X → Y) (xs : List X) (i : ℕ) → i < length xs → is_end (map v (drop (i + 1) xs)) ≡ nat_eq (i + 1) (length xs)
last_by_length v xs i h =
    let l : length (map v (drop (i + 1) xs)) ≡ length xs - (i + 1) = length-map (drop (i + 1) xs) v ∙ length-drop (i + 1) xs in
    end_by_length (map v (drop (i + 1) xs)) ∙ ap (λ n. nat_eq n 0) l ∙ at_end (length xs) i h
