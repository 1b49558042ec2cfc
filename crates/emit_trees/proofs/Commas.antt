-- Commas between metas, and attributes.
use Rattle.std.proofs.Common.{◌≡◌, ◌≤◌, List, [], ◌∷◌, ◌++◌, map, length, Bool, true, false, refl, ap, sym, ◌∙◌, append_assoc, arith}
use Rattle.std.proofs.lemmas.List.{map-append}
use Rattle.syntax_printing.specs.Print.{sign}
use Rattle.emit_defs.specs.Trees.{Carried, carried_tokens, with_commas, serde}
use Rattle.emit_trees.specs.CarriedView.{has_any, comma, serde_list}

pub some_behind : {A : Type 0} → (xs : List A) → 1 ≤ length xs → has_any xs ≡ true
some_behind [] h = absurd (omega arith)
some_behind (x ∷ xs) h = refl

pub any_more : {A : Type 0} → (xs : List A) (x : A) → has_any (xs ++ x ∷ []) ≡ true
any_more [] x = refl
any_more (y ∷ xs) x = refl

-- one meta more, behind others
pub commas_more : (ms : List Carried) (m : Carried) → with_commas (ms ++ m ∷ []) ≡ (with_commas ms ++ comma (has_any ms)) ++ carried_tokens m
commas_more [] m = refl
commas_more (n ∷ []) m = sym (append_assoc (carried_tokens n) (sign 44 ∷ []) (carried_tokens m))
commas_more (n ∷ o ∷ ms) m =
    ap (λ ts. carried_tokens n ++ (sign 44 ∷ ts)) (commas_more (o ∷ ms) m)
    ∙ sym (append_assoc (carried_tokens n) (sign 44 ∷ (with_commas (o ∷ ms) ++ sign 44 ∷ [])) (carried_tokens m))
    ∙ ap (λ ts. ts ++ carried_tokens m) (sym (append_assoc (carried_tokens n) (sign 44 ∷ with_commas (o ∷ ms)) (sign 44 ∷ [])))

-- the same of what metas are seen in
pub commas_seen : {A : Type 0} → (f : A → Carried) (xs : List A) (x : A) → with_commas (map f (xs ++ x ∷ [])) ≡ (with_commas (map f xs) ++ comma (has_any (map f xs))) ++ carried_tokens (f x)
commas_seen f xs x = ap with_commas (map-append f xs (x ∷ [])) ∙ commas_more (map f xs) (f x)

pub any_seen : {A B : Type 0} → (f : A → B) (xs : List A) (x : A) → has_any (map f (xs ++ x ∷ [])) ≡ true
any_seen f [] x = refl
any_seen f (y ∷ xs) x = refl

pub serde_of_none : {A : Type 0} → (f : A → Carried) (xs : List A) → has_any xs ≡ false → serde (map f xs) ≡ []
serde_of_none f [] h = refl
serde_of_none f (x ∷ xs) h = cc

pub serde_of_some : {A : Type 0} → (f : A → Carried) (xs : List A) → has_any xs ≡ true → serde (map f xs) ≡ serde_list (with_commas (map f xs)) ∷ []
serde_of_some f [] h = cc
serde_of_some f (x ∷ xs) h = refl
