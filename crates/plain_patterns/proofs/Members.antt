-- The members of a class, one after the other.
use Rattle.std.proofs.Common.{◌≡◌, ◌≢◌, ◌∙◌, sym, ap, subst, ℕ, zero, suc, ◌+◌, ◌<◌, ◌≤◌, List, [], ◌∷◌, ◌++◌, Bool, true, false, length, drop, cond, refl, arith, append_assoc, Option, Some, None, option_map, ne_eqb}
use Rattle.plain_patterns.specs.declared.atom.Member.{Member}
use Rattle.plain_patterns.specs.Plain.{Text, ◌>>=◌, is_at, member, member_bytes, members, after_head}

closes : (mode : Bool) (n : ℕ) (t : Text) → length t ≤ n → 0 < length t → is_at 93 t ≡ true → members mode n t ≡ Some (93 ∷ [], drop 1 t)
unfolding members
closes mode zero t le lt h = absurd (omega arith)
closes mode (suc n) t le lt h = ap (λ v. cond v (Some (93 ∷ [], drop 1 t)) (member mode t >>= λ p. option_map (λ q. (member_bytes p.0 ++ q.0, q.1)) (members mode n p.1))) h

goes_on : (mode : Bool) (n : ℕ) (t : Text) → is_at 93 t ≡ false → members mode (suc n) t ≡ (member mode t >>= λ p. option_map (λ q. (member_bytes p.0 ++ q.0, q.1)) (members mode n p.1))
unfolding members
goes_on mode n t h = ap (λ v. cond v (Some (93 ∷ [], drop 1 t)) (member mode t >>= λ p. option_map (λ q. (member_bytes p.0 ++ q.0, q.1)) (members mode n p.1))) h

no_member : (mode : Bool) (n : ℕ) (t : Text) → is_at 93 t ≡ false → member mode t ≡ None → members mode n t ≡ None
unfolding members
no_member mode zero t h m = refl
no_member mode (suc n) t h m = goes_on mode n t h ∙ ap (λ o. o >>= λ p. option_map (λ q. (member_bytes p.0 ++ q.0, q.1)) (members mode n p.1)) m

no_text : (mode : Bool) (n : ℕ) → members mode n [] ≡ None
unfolding members
no_text mode zero = refl
no_text mode (suc n) = refl

pub regroup : (out bytes : List ℕ) (o : Option (List ℕ × Text)) → after_head out (option_map (λ q. (bytes ++ q.0, q.1)) o) ≡ after_head (out ++ bytes) o
regroup out bytes None = refl
regroup out bytes (Some q) = ap (λ w. Some (w, q.1)) (sym (append_assoc out bytes q.0))

one_member : (mode : Bool) (n : ℕ) (t u : Text) (m : Member) (out : List ℕ) → is_at 93 t ≡ false → member mode t ≡ Some (m, u)
    → after_head out (members mode (suc n) t) ≡ after_head (out ++ member_bytes m) (members mode n u)
one_member mode n t u m out h e =
    ap (after_head out) (goes_on mode n t h ∙ ap (λ o. o >>= λ p. option_map (λ q. (member_bytes p.0 ++ q.0, q.1)) (members mode n p.1)) e)
    ∙ regroup out (member_bytes m) (members mode n u)

-- what is left of a class from a place on, with a bound
abbrev pub IsLeft : Bool → Option (List ℕ × Text) → List ℕ → Text → Type 0
IsLeft mode whole out t = (n : ℕ) × (length t ≤ n) × (whole ≡ after_head out (members mode n t))

next_by : (mode : Bool) (n : ℕ) (whole : Option (List ℕ × Text)) (t u : Text) (m : Member) (out new : List ℕ) → length t ≤ n → whole ≡ after_head out (members mode n t)
    → 0 < length t → length u + 1 ≤ length t → is_at 93 t ≡ false → member mode t ≡ Some (m, u) → new ≡ out ++ member_bytes m → IsLeft mode whole new u
next_by mode zero whole t u m out new le k lt shorter h e w = absurd (omega arith)
next_by mode (suc n) whole t u m out new le k lt shorter h e w =
    (n, omega arith, k ∙ one_member mode n t u m out h e ∙ ap (λ x. after_head x (members mode n u)) (sym w))

-- at the bracket that closes the class
pub closed : (mode : Bool) (whole : Option (List ℕ × Text)) (t : Text) (c : ℕ) (u : Text) (out new : List ℕ) → t ≡ c ∷ u → c ≡ 93 → new ≡ out ++ 93 ∷ [] → IsLeft mode whole out t
    → Some (new, u) ≡ whole
closed mode whole t c u out new q e w left =
    let l : IsLeft mode whole out (93 ∷ u) = subst (λ y. IsLeft mode whole out y) (q ∙ ap (λ d. d ∷ u) e) left in
    sym (l.2 ∙ ap (after_head out) (closes mode l.0 (93 ∷ u) l.1 (omega arith) refl) ∙ ap (λ x. Some (x, u)) (sym w))

-- where no member stands
pub refused : (mode : Bool) (whole : Option (List ℕ × Text)) (t : Text) (c : ℕ) (u : Text) (out : List ℕ) → t ≡ c ∷ u → c ≢ 93 → None ≡ member mode t → IsLeft mode whole out t → None ≡ whole
refused mode whole t c u out q e m left =
    let l : IsLeft mode whole out (c ∷ u) = subst (λ y. IsLeft mode whole out y) q left in
    sym (l.2 ∙ ap (after_head out) (no_member mode l.0 (c ∷ u) (ne_eqb c 93 e) (ap (member mode) (sym q) ∙ sym m)))

pub next_member : (mode : Bool) (whole : Option (List ℕ × Text)) (t : Text) (c : ℕ) (u rest : Text) (m : Member) (out new : List ℕ) → t ≡ c ∷ rest → c ≢ 93
    → Some (m, u) ≡ member mode t → length u + 1 ≤ length t → new ≡ out ++ member_bytes m → IsLeft mode whole out t → IsLeft mode whole new u
next_member mode whole t c u rest m out new q e f shorter w left =
    let l : IsLeft mode whole out (c ∷ rest) = subst (λ y. IsLeft mode whole out y) q left in
    let s : length u + 1 ≤ length (c ∷ rest) = subst (λ y. length u + 1 ≤ length y) q shorter in
    next_by mode l.0 whole (c ∷ rest) u m out new l.1 l.2 (omega arith) s (ne_eqb c 93 e) (ap (member mode) (sym q) ∙ sym f) w

-- where the text ends
pub ended : (mode : Bool) (whole : Option (List ℕ × Text)) (t : Text) (out : List ℕ) → length t ≡ 0 → IsLeft mode whole out t → None ≡ whole
ended mode whole [] out e left = sym (left.2 ∙ ap (after_head out) (no_text mode left.0))
ended mode whole (c ∷ t) out e left = absurd (omega arith)
