-- The pieces of a pattern, one after the other.
use Rattle.std.proofs.Common.{◌≡◌, ◌≢◌, ◌∙◌, sym, ap, subst, ℕ, zero, suc, ◌+◌, ◌-◌, ◌≤◌, List, [], ◌∷◌, ◌++◌, Bool, true, false, length, cond, refl, arith, Option, Some, None, option_map, ◌==◌, ◌&&◌, not, ne_eqb}
use Rattle.std.proofs.lemmas.List.{append-nil}
use Rattle.std.proofs.lemmas.Option.{none-some, same_Some}
use Rattle.plain_patterns.specs.declared.state.Kind.{Kind}
use Rattle.plain_patterns.specs.declared.state.Kind.TheVariants.{Opening, Closing, Bar, Assertion, Item, Repetition}
use Rattle.plain_patterns.specs.declared.state.State.{State}
use Rattle.plain_patterns.specs.Plain.{Text, Found, ◌>>=◌, after_head, behind, piece}
use Rattle.plain_patterns.specs.Ends.{Step, is_end, reached, read_from, state_after, stepped}
use Rattle.plain_patterns.proofs.Members.{regroup}

abbrev pub triple : Kind → List ℕ → Text → Found
triple k w u = (k, w, u)

pair_of : (p : Found) (k : Kind) (u : Text) → k ≡ p.0 → u ≡ p.2 → triple p.0 p.1 p.2 ≡ triple k p.1 u
pair_of p k u a b = ap (λ x. triple x p.1 p.2) (sym a) ∙ ap (λ x. triple k p.1 x) (sym b)

pub none_written : (o : Option Found) (out : List ℕ) → None ≡ behind out o → o ≡ None
none_written None out e = refl
none_written (Some p) out e = absurd (none-some _ e)

-- what a function says that writes a piece
abbrev pub found : Kind → List ℕ → Text → Option Found
found k new u = Some (triple k new u)

-- a piece that was written behind others
pub written : (o : Option Found) (out new : List ℕ) (k : Kind) (u : Text) → found k new u ≡ behind out o → (w : List ℕ) × (o ≡ Some (triple k w u)) × (new ≡ out ++ w)
written None out new k u e = absurd (none-some _ (sym e))
written (Some p) out new k u e =
    let q : triple k new u ≡ triple p.0 (out ++ p.1) p.2 = same_Some (triple k new u) (triple p.0 (out ++ p.1) p.2) e in
    (p.1, ap Some (pair_of p k u (ap (λ (x : Found). x.0) q) (ap (λ (x : Found). x.2) q)), ap (λ (x : Found). x.1) q)

abbrev pub step : List ℕ → Text → State → Step
step w u next = (w, u, next)

-- a piece that may stand where it does, and one that may not
pub step_of : (o : Option Found) (k : Kind) (w : List ℕ) (u : Text) (s : State) (next : Option State) → o ≡ Some (triple k w u) → next ≡ state_after s k
    → stepped o s ≡ option_map (λ n. step w u n) next
step_of o k w u s next e r = ap (λ p. stepped p s) e ∙ ap (option_map (λ n. step w u n)) (sym r)

abbrev rest : Bool → ℕ → Option Step → Option (List ℕ × Text)
rest mode n o = o >>= λ q. after_head q.0 (read_from mode n q.1 q.2)

goes_on : (mode : Bool) (n c : ℕ) (t : Text) (s : State) → is_end s (c ∷ t) ≡ false → read_from mode (suc n) (c ∷ t) s ≡ rest mode n (stepped (piece mode c t) s)
unfolding read_from
goes_on mode n c t s e = ap (λ b. cond b (Some ([], c ∷ t)) (rest mode n (stepped (piece mode c t) s))) e

ends : (mode : Bool) (n c : ℕ) (t : Text) (s : State) → length (c ∷ t) ≤ n → is_end s (c ∷ t) ≡ true → read_from mode n (c ∷ t) s ≡ Some ([], c ∷ t)
unfolding read_from
ends mode zero c t s le e = absurd (omega arith)
ends mode (suc n) c t s le e = ap (λ b. cond b (Some ([], c ∷ t)) (rest mode n (stepped (piece mode c t) s))) e

-- what is left of a pattern from a place on, with a bound
abbrev pub IsLeft : Bool → Option (List ℕ × Text) → List ℕ → Text → State → Type 0
IsLeft mode whole out t s = (n : ℕ) × (length t ≤ n) × (whole ≡ after_head out (read_from mode n t s))

-- where pieces end
pub ended_here : (mode : Bool) (whole : Option (List ℕ × Text)) (out : List ℕ) (x : Text) (c : ℕ) (t : Text) (s : State) → x ≡ c ∷ t → is_end s x ≡ true → IsLeft mode whole out x s → Some (out, x) ≡ whole
ended_here mode whole out x c t s q e left =
    let l : IsLeft mode whole out (c ∷ t) s = subst (λ y. IsLeft mode whole out y s) q left in
    ap (λ y. Some (out, y)) q ∙ sym (l.2 ∙ ap (after_head out) (ends mode l.0 c t s l.1 (ap (is_end s) (sym q) ∙ e)) ∙ ap (λ w. Some (w, c ∷ t)) (append-nil out))

stops_by : (mode : Bool) (n : ℕ) (whole : Option (List ℕ × Text)) (out : List ℕ) (c : ℕ) (t : Text) (s : State) → length (c ∷ t) ≤ n → is_end s (c ∷ t) ≡ false → stepped (piece mode c t) s ≡ None
    → whole ≡ after_head out (read_from mode n (c ∷ t) s) → None ≡ whole
stops_by mode zero whole out c t s le b e h = absurd (omega arith)
stops_by mode (suc n) whole out c t s le b e h = sym (h ∙ ap (after_head out) (goes_on mode n c t s b ∙ ap (rest mode n) e))

stops : (mode : Bool) (whole : Option (List ℕ × Text)) (out : List ℕ) (x : Text) (c : ℕ) (t : Text) (s : State) → x ≡ c ∷ t → is_end s x ≡ false → stepped (piece mode c t) s ≡ None
    → IsLeft mode whole out x s → None ≡ whole
stops mode whole out x c t s q b e left =
    let l : IsLeft mode whole out (c ∷ t) s = subst (λ y. IsLeft mode whole out y s) q left in
    stops_by mode l.0 whole out c t s l.1 (ap (is_end s) (sym q) ∙ b) e l.2

pub no_piece : (mode : Bool) (whole : Option (List ℕ × Text)) (out : List ℕ) (x : Text) (c : ℕ) (t : Text) (s : State) → x ≡ c ∷ t → is_end s x ≡ false → None ≡ behind out (piece mode c t)
    → IsLeft mode whole out x s → None ≡ whole
no_piece mode whole out x c t s q b e left = stops mode whole out x c t s q b (ap (λ o. stepped o s) (none_written (piece mode c t) out e)) left

pub no_place : (mode : Bool) (whole : Option (List ℕ × Text)) (out new : List ℕ) (x : Text) (c : ℕ) (t : Text) (s : State) (k : Kind) (u : Text) → x ≡ c ∷ t → is_end s x ≡ false
    → found k new u ≡ behind out (piece mode c t) → None ≡ state_after s k → IsLeft mode whole out x s → None ≡ whole
no_place mode whole out new x c t s k u q b e r left =
    let w = written (piece mode c t) out new k u e in
    stops mode whole out x c t s q b (step_of _ k w.0 u s None w.1 r) left

next_by : (mode : Bool) (n : ℕ) (whole : Option (List ℕ × Text)) (out new : List ℕ) (c : ℕ) (t : Text) (s next : State) (w : List ℕ) (u : Text) → length (c ∷ t) ≤ n
    → whole ≡ after_head out (read_from mode n (c ∷ t) s) → is_end s (c ∷ t) ≡ false → stepped (piece mode c t) s ≡ Some (step w u next) → new ≡ out ++ w → length u ≤ length t
    → IsLeft mode whole new u next
next_by mode zero whole out new c t s next w u le h b e v shorter = absurd (omega arith)
next_by mode (suc n) whole out new c t s next w u le h b e v shorter = (
  n,
  omega arith,
  h ∙ ap (after_head out) (goes_on mode n c t s b ∙ ap (rest mode n) e) ∙ regroup out w (read_from mode n u next) ∙ ap (λ x. after_head x (read_from mode n u next)) (sym v),
)

pub next_piece : (mode : Bool) (whole : Option (List ℕ × Text)) (out new : List ℕ) (x : Text) (c : ℕ) (t : Text) (s next : State) (k : Kind) (u : Text) → x ≡ c ∷ t → is_end s x ≡ false
    → found k new u ≡ behind out (piece mode c t) → Some next ≡ state_after s k → length u ≤ length t → IsLeft mode whole out x s → IsLeft mode whole new u next
next_piece mode whole out new x c t s next k u q b e r shorter left =
    let l : IsLeft mode whole out (c ∷ t) s = subst (λ y. IsLeft mode whole out y s) q left in
    let w = written (piece mode c t) out new k u e in
    next_by mode l.0 whole out new c t s next w.0 u l.1 l.2 (ap (is_end s) (sym q) ∙ b) (step_of _ k w.0 u s (Some next) w.1 r) w.2 shorter

depth_of : (s next : State) (n : ℕ) (b : Bool) → Some next ≡ Some (reached s n b) → next.depth ≡ n
depth_of s next n b e = ap (λ (x : State). x.depth) (same_Some next (reached s n b) e)

closing : (s next : State) (b : Bool) → Some next ≡ cond b None (Some (reached s (s.depth - 1) true)) → next.depth ≤ s.depth + 1
closing s next true e = absurd (none-some _ (sym e))
closing s next false e = omega (arith, depth_of s next (s.depth - 1) true e)

dividing : (s next : State) (b : Bool) → Some next ≡ cond b None (Some (reached s s.depth false)) → next.depth ≤ s.depth + 1
dividing s next true e = absurd (none-some _ (sym e))
dividing s next false e = omega (arith, depth_of s next s.depth false e)

repeated : (s next : State) (b : Bool) → Some next ≡ cond b (Some (reached s s.depth false)) None → next.depth ≤ s.depth + 1
repeated s next true e = omega (arith, depth_of s next s.depth false e)
repeated s next false e = absurd (none-some _ (sym e))

-- a piece opens a group at most
pub deeper : (s next : State) (k : Kind) → Some next ≡ state_after s k → next.depth ≤ s.depth + 1
deeper s next Opening e = omega (arith, depth_of s next (s.depth + 1) false e)
deeper s next Closing e = closing s next (s.depth == 0) e
deeper s next Bar e = dividing s next (s.depth == 0 && not s.bars) e
deeper s next Assertion e = omega (arith, depth_of s next s.depth false e)
deeper s next Item e = omega (arith, depth_of s next s.depth true e)
deeper s next Repetition e = repeated s next s.repeatable e

nil_read : (mode : Bool) (n : ℕ) (s : State) → read_from mode n [] s ≡ cond (s.depth == 0) (Some ([], [])) None
unfolding read_from
nil_read mode zero s = refl
nil_read mode (suc n) s = refl

by_depth : (b : Bool) (out : List ℕ) (t : Text) → t ≡ [] → cond b (Some (out, t)) None ≡ after_head out (cond b (Some ([], [])) None)
by_depth true out t e = ap (λ u. Some (out, u)) e ∙ ap (λ w. Some (w, [])) (sym (append-nil out))
by_depth false out t e = refl

empty : (t : Text) → length t ≡ 0 → t ≡ []
empty [] e = refl
empty (c ∷ t) e = absurd (omega arith)

left_at_end : (mode : Bool) (whole : Option (List ℕ × Text)) (out : List ℕ) (t : Text) (s : State) → length t ≡ 0 → IsLeft mode whole out t s → cond (s.depth == 0) (Some (out, t)) None ≡ whole
left_at_end mode whole out t s e left =
    let l : IsLeft mode whole out [] s = subst (λ y. IsLeft mode whole out y s) (empty t e) left in
    by_depth (s.depth == 0) out t (empty t e) ∙ sym (l.2 ∙ ap (after_head out) (nil_read mode l.0 s))

-- where the text ends
pub nothing_left : (mode : Bool) (whole : Option (List ℕ × Text)) (out : List ℕ) (t : Text) (s : State) → length t ≡ 0 → s.depth ≡ 0 → IsLeft mode whole out t s → Some (out, t) ≡ whole
nothing_left mode whole out t s e d left = ap (λ n. cond (n == 0) (Some (out, t)) None) (sym d) ∙ left_at_end mode whole out t s e left

-- where it ends within a group
pub open_group : (mode : Bool) (whole : Option (List ℕ × Text)) (out : List ℕ) (t : Text) (s : State) → length t ≡ 0 → s.depth ≢ 0 → IsLeft mode whole out t s → None ≡ whole
open_group mode whole out t s e d left = ap (λ b. cond b (Some (out, t)) None) (sym (ne_eqb s.depth 0 d)) ∙ left_at_end mode whole out t s e left
