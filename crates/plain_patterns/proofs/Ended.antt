-- Lookaheads and lookbehinds, one after another.
use Rattle.std.proofs.Common.{◌≡◌, ◌∙◌, sym, ap, ℕ, zero, suc, ◌+◌, ◌≤◌, List, [], ◌∷◌, ◌++◌, Bool, length, refl, arith, append_assoc, Option, Some, None, option_map, unwrap_or}
use Rattle.std.proofs.lemmas.List.{append-nil}
use Rattle.std.proofs.lemmas.Option.{none-some, same_Some}
use Rattle.plain_patterns.specs.Plain.{Text, ◌>>=◌}
use Rattle.plain_patterns.specs.Ends.{Looks, inside, look, looks}

abbrev two : {A B : Type 0} → A → B → A × B
two a b = (a, b)

-- behind those that were kept
abbrev pub with_looks : List (List ℕ × Bool) → Option Looks → Option Looks
with_looks kept o = option_map {U = Looks} (λ q. (kept ++ q.0, q.1)) o

abbrev pub with_one : List (List ℕ × Bool) → Bool → Option (List ℕ × Text) → Option Looks
with_one kept negated o = option_map {U = Looks} (λ p. (kept ++ (p.0, negated) ∷ [], p.1)) o

abbrev pub IsLooked : Bool → Bool → Option Looks → List (List ℕ × Bool) → Text → Type 0
IsLooked u back whole kept t = (n : ℕ) × (length t ≤ n) × (whole ≡ with_looks kept (looks u back n t))

abbrev following : Bool → Bool → ℕ → Bool → Option (List ℕ × Text) → Option Looks
following u back n negated o = o >>= λ p. option_map {U = Looks} (λ q. ((p.0, negated) ∷ q.0, q.1)) (looks u back n p.1)

abbrev from_look : Bool → Bool → ℕ → Text → Option (Bool × Text) → Option Looks
from_look u back n t o = unwrap_or (option_map (λ l. following u back n l.0 (inside u back l.1)) o) (Some (two [] t))

goes_on : (u back : Bool) (n : ℕ) (t : Text) → looks u back (suc n) t ≡ from_look u back n t (look back t)
unfolding looks
goes_on u back n t = refl

opened : (u back : Bool) (n : ℕ) (t inner : Text) (negated : Bool) → length inner + 1 ≤ length t → length t ≤ n → Some (two negated inner) ≡ look back t
    → (m : ℕ) × (suc m ≡ n) × (looks u back n t ≡ following u back m negated (inside u back inner))
opened u back zero t inner negated shorter le l = absurd (omega arith)
opened u back (suc n) t inner negated shorter le l = (n, refl, goes_on u back n t ∙ ap (from_look u back n t) (sym l))

none_one : (o : Option (List ℕ × Text)) (negated : Bool) (kept : List (List ℕ × Bool)) → None ≡ with_one kept negated o → o ≡ None
none_one None negated kept e = refl
none_one (Some p) negated kept e = absurd (none-some _ e)

-- where a lookaround isn't plain
pub no_inside : (u back : Bool) (whole : Option Looks) (kept : List (List ℕ × Bool)) (t inner : Text) (negated : Bool) → length inner + 1 ≤ length t → Some (two negated inner) ≡ look back t
    → None ≡ with_one kept negated (inside u back inner) → IsLooked u back whole kept t → None ≡ whole
no_inside u back whole kept t inner negated shorter l e left =
    let m = opened u back left.0 t inner negated shorter left.1 l in
    sym (left.2 ∙ ap (with_looks kept) (m.2 ∙ ap (following u back m.0 negated) (none_one (inside u back inner) negated kept e)))

pair_at : (p : List ℕ × Text) (negated : Bool) (old new : List (List ℕ × Bool)) (rest : Text) → Some (two new rest) ≡ with_one old negated (Some p)
    → (new ≡ old ++ (p.0, negated) ∷ []) × (rest ≡ p.1)
pair_at p negated old new rest e =
    let q : two new rest ≡ two (old ++ (p.0, negated) ∷ []) p.1 = same_Some (two new rest) (two (old ++ (p.0, negated) ∷ []) p.1) e in
    (ap (λ (x : Looks). x.0) q, ap (λ (x : Looks). x.1) q)

more : (kept : List (List ℕ × Bool)) (one : List ℕ × Bool) (o : Option Looks) → with_looks kept (option_map {U = Looks} (λ q. (one ∷ q.0, q.1)) o) ≡ with_looks (kept ++ one ∷ []) o
more kept one None = refl
more kept one (Some q) = ap (λ x. Some (two x q.1)) (sym (append_assoc kept (one ∷ []) q.0))

next_by : (u back : Bool) (n : ℕ) (o : Option (List ℕ × Text)) (negated : Bool) (old new : List (List ℕ × Bool)) (rest : Text) → Some (two new rest) ≡ with_one old negated o
    → with_looks old (following u back n negated o) ≡ with_looks new (looks u back n rest)
next_by u back n None negated old new rest e = absurd (none-some _ (sym e))
next_by u back n (Some p) negated old new rest e =
    let q = pair_at p negated old new rest e in
    more old (p.0, negated) (looks u back n p.1) ∙ ap (λ x. with_looks x (looks u back n p.1)) (sym q.0) ∙ ap (λ x. with_looks new (looks u back n x)) (sym q.1)

pub next_look : (u back : Bool) (whole : Option Looks) (old new : List (List ℕ × Bool)) (t inner rest : Text) (negated : Bool) → length inner + 1 ≤ length t → Some (two negated inner) ≡ look back t
    → Some (two new rest) ≡ with_one old negated (inside u back inner) → length rest ≤ length inner → IsLooked u back whole old t → IsLooked u back whole new rest
next_look u back whole old new t inner rest negated shorter l e less left =
    let m = opened u back left.0 t inner negated shorter left.1 l in (
      m.0,
      omega (arith, m.1, left.1),
      left.2 ∙ ap (with_looks old) m.2 ∙ next_by u back m.0 (inside u back inner) negated old new rest e,
    )

no_look_by : (u back : Bool) (n : ℕ) (t : Text) → None ≡ look back t → looks u back n t ≡ Some (two [] t)
unfolding looks
no_look_by u back zero t e = refl
no_look_by u back (suc n) t e = ap (from_look u back n t) (sym e)

-- where none stands
pub no_look : (u back : Bool) (whole : Option Looks) (kept : List (List ℕ × Bool)) (t : Text) → None ≡ look back t → IsLooked u back whole kept t → Some (two kept t) ≡ whole
no_look u back whole kept t e left =
    sym (left.2 ∙ ap (with_looks kept) (no_look_by u back left.0 t e) ∙ ap (λ x. Some (two x t)) (append-nil kept))
