-- The partners of open brackets, sought in what follows.
use Rattle.std.proofs.Common.{◌≡◌, ◌≢◌, ◌-◌, List, [], ◌∷◌, ◌++◌, ℕ, Some, length, take, reverse, refl, ap, sym, subst, ◌∙◌, arith}
use Rattle.std.specs.List.{slice_get}
use Rattle.std.specs.Str.{skip_leading_whitespace}
use Rattle.std.proofs.lemmas.List.{reverse-append, length-reverse, nil_from_length}
use Rattle.token_trees.specs.declared.token.Delimiter.{Delimiter}
use Rattle.rust_tokens.specs.Faults.{Seen, seen, beyond, Sees, closed, open_after_one, open_after}
use Rattle.rust_tokens.specs.Groups.{AreClosed}
use Rattle.rust_tokens.proofs.Pairs.{closed_nil, closed_partner, closed_other}
use Rattle.rust_tokens.proofs.Sights.{sees_past, past_sees}

abbrev past : List ℕ → List ℕ
past = skip_leading_whitespace

-- a list has a last item
record Last (x : Delimiter) (xs : List Delimiter) : Type 0 where
  pub last : Delimiter
  pub is : slice_get (x ∷ xs) (length xs) ≡ Some last
  pub whole : x ∷ xs ≡ take (length xs) (x ∷ xs) ++ last ∷ []

last_item : (x : Delimiter) (xs : List Delimiter) → Last x xs
last_item x [] = record { last = x; is = refl; whole = refl }
last_item x (y ∷ ys) = let t = last_item y ys in record { last = t.last; is = t.is; whole = ap (λ zs. x ∷ zs) t.whole }

reversed : (x : Delimiter) (xs : List Delimiter) (t : Last x xs) → reverse (x ∷ xs) ≡ t.last ∷ reverse (take (length xs) (x ∷ xs))
reversed x xs t = ap reverse t.whole ∙ reverse-append (take (length xs) (x ∷ xs)) (t.last ∷ [])

-- a closing bracket that is the partner of the last
pub last_closed : (xs ys : List Delimiter) (d : Delimiter) → slice_get xs (length xs - 1) ≡ Some d → ys ≡ take (length xs - 1) xs → reverse ys ≡ closed d (reverse xs)
last_closed [] ys d h e = absurd (cc)
last_closed (x ∷ xs) ys d h e =
    let n : length (x ∷ xs) - 1 ≡ length xs = omega arith in
    let t = last_item x xs in
    let same : d ≡ t.last = let k = sym t.is ∙ ap (slice_get (x ∷ xs)) (sym n) ∙ h in cc in
    ap reverse (e ∙ ap (λ i. take i (x ∷ xs)) n)
    ∙ sym (ap (closed d) (reversed x xs t) ∙ closed_partner d t.last (reverse (take (length xs) (x ∷ xs))) same)

-- and one that isn't
pub last_stays : (xs : List Delimiter) (d : Delimiter) → (slice_get xs (length xs - 1) ≡ Some d → ⊥) → reverse xs ≡ closed d (reverse xs)
last_stays [] d h = sym (closed_nil d)
last_stays (x ∷ xs) d h =
    let n : length (x ∷ xs) - 1 ≡ length xs = omega arith in
    let t = last_item x xs in
    let apart : d ≡ t.last → ⊥ = λ k. h (ap (slice_get (x ∷ xs)) n ∙ t.is ∙ ap Some (sym k)) in
    reversed x xs t ∙ sym (ap (closed d) (reversed x xs t) ∙ closed_other d t.last (reverse (take (length xs) (x ∷ xs))) apart)

-- no brackets are open where there are none
pub held_none : (xs : List Delimiter) (n : ℕ) → n ≡ length xs → reverse xs ≡ [] → n ≡ 0
held_none xs n e h = e ∙ sym (length-reverse xs) ∙ ap length h

pub none_held : (xs : List Delimiter) (n : ℕ) → n ≡ length xs → n ≡ 0 → reverse xs ≡ []
none_held xs n e h = ap reverse (nil_from_length xs (sym e ∙ h))

-- one step of the search keeps whether all are closed
pub step_closed : (held next : List Delimiter) (rest after : List ℕ) → rest ≢ [] → past rest ≡ rest → next ≡ open_after_one (seen rest) held → after ≡ beyond rest → AreClosed next after → AreClosed held rest
step_closed held next rest after some skipped e f c =
    let P : List ℕ → Type 0 = λ ds. (ds ≢ []) × (seen ds ≡ seen rest) × Sees (beyond ds) c.passed c.after in
    let Q : List ℕ → Type 0 = λ ds. Sees ds c.passed c.after in
    record {
      passed = seen rest ∷ c.passed;
      after = c.after;
      sees = subst P (sym skipped) (some, refl, subst Q f c.sees);
      none_open = ap (open_after c.passed) (sym e) ∙ c.none_open;
    }

closed_step_at : (held next : List Delimiter) (rest after : List ℕ) (passed : List Seen) (end : List ℕ) → held ≢ [] → past rest ≡ rest → next ≡ open_after_one (seen rest) held → after ≡ beyond rest
    → Sees rest passed end → open_after passed held ≡ [] → AreClosed next after
closed_step_at held next rest after [] end some skipped e f s h = absurd (some h)
closed_step_at held next rest after (x ∷ xs) end some skipped e f s h =
    let P : List ℕ → Type 0 = λ ds. Sees (beyond ds) xs end in
    let Q : List ℕ → Type 0 = λ ds. Sees ds xs end in
    let same : seen rest ≡ x = ap seen (sym skipped) ∙ s.1 in
    record {
      passed = xs;
      after = end;
      sees = subst Q (sym f) (subst P skipped s.2);
      none_open = ap (open_after xs) (e ∙ ap (λ y. open_after_one y held) same) ∙ h;
    }

pub closed_step : (held next : List Delimiter) (rest after : List ℕ) → held ≢ [] → past rest ≡ rest → next ≡ open_after_one (seen rest) held → after ≡ beyond rest → AreClosed held rest → AreClosed next after
closed_step held next rest after some skipped e f c = closed_step_at held next rest after c.passed c.after some skipped e f c.sees c.none_open

-- white space before makes no difference
pub closed_past : (held : List Delimiter) (rest : List ℕ) → AreClosed held rest → AreClosed held (past rest)
closed_past held rest c = record { passed = c.passed; after = c.after; sees = past_sees rest c.passed c.after c.sees; none_open = c.none_open }

pub past_closed : (held : List Delimiter) (rest : List ℕ) → AreClosed held (past rest) → AreClosed held rest
past_closed held rest c = record { passed = c.passed; after = c.after; sees = sees_past rest c.passed c.after c.sees; none_open = c.none_open }

nothing_closes : (held : List Delimiter) (rest : List ℕ) (passed : List Seen) (after : List ℕ) → rest ≡ [] → Sees rest passed after → open_after passed held ≡ [] → held ≡ []
nothing_closes held rest [] after e s h = h
nothing_closes held rest (x ∷ xs) after e s h = absurd (s.0 (ap past e))

-- at the end of the text nothing is closed any more
pub closed_at_end : (held : List Delimiter) (rest : List ℕ) → rest ≡ [] → AreClosed held rest → held ≡ []
closed_at_end held rest e c = nothing_closes held rest c.passed c.after e c.sees c.none_open
