-- The bodies of string literals, read from the left.
use Rattle.std.proofs.Common.{◌≡◌, ◌+◌, ◌<◌, ◌-◌, take, ℕ, zero, suc, List, [], ◌∷◌, ◌++◌, drop, get_or, length, Option, Some, None, cond, eqb, false, inl, inr, refl, ap, sym, ◌∙◌, append_assoc, arith, encode_utf8, drop-cons, add-one}
use Rattle.std.proofs.lemmas.List.{drop-drop, take_all, length-drop}
use Rattle.std.proofs.lemmas.Bool.Decides.{eqb_tells}
use Rattle.std.specs.Prelude.{option_map}
use Rattle.rust_tokens.specs.Front.{body, unit}

pub eqb_no : (a b : ℕ) → (a ≡ b → ⊥) → eqb a b ≡ false
eqb_no a b h = elim (eqb_tells a b) [ inl p ↦ absurd (h p.1) | inr p ↦ p.0 ]

-- a body that comes after a value and so many characters
abbrev pub after_body : List ℕ → ℕ → Option (List ℕ × ℕ) → Option (List ℕ × ℕ)
after_body value at r = option_map (λ r. (value ++ r.0, at + r.1)) r

pub after_none : (r : Option (List ℕ × ℕ)) → r ≡ after_body [] 0 r
after_none None = refl
after_none (Some (v, n)) = ap (λ m. Some (v, m)) (omega arith)

more_chars : (k : ℕ) (r : Option (List ℕ × ℕ)) → option_map (λ r. (r.0, r.1 + 1)) (after_body [] k r) ≡ after_body [] (suc k) r
more_chars k None = refl
more_chars k (Some (v, n)) = ap (λ m. Some (v, m)) (omega arith)

pub body_skip : (k : ℕ) (cs : List ℕ) → body k cs ≡ after_body [] k (body 0 (drop k cs))
body_skip zero cs = after_none (body 0 cs)
body_skip (suc k) [] = refl
body_skip (suc k) (c ∷ cs) = ap (option_map (λ r. (r.0, r.1 + 1))) (body_skip k cs) ∙ more_chars k (body 0 (drop k cs))

-- one unit at the front
one_unit : (v : List ℕ) (k : ℕ) (r : Option (List ℕ × ℕ)) → option_map (λ r. (v ++ r.0, r.1 + 1)) (after_body [] k r) ≡ after_body v (k + 1) r
one_unit v k None = refl
one_unit v k (Some (w, n)) = ap (λ m. Some (v ++ w, m)) (omega arith)

pub joined : (v w : List ℕ) (k m : ℕ) (r : Option (List ℕ × ℕ)) → after_body v k (after_body w m r) ≡ after_body (v ++ w) (k + m) r
joined v w k m None = refl
joined v w k m (Some (x, n)) =
    ap (λ y. Some (y, k + (m + n))) (sym (append_assoc v w x)) ∙ ap (λ y. Some ((v ++ w) ++ x, y)) (omega arith)

pub front_at : (cs : List ℕ) (at c : ℕ) → at < length cs → c ≡ get_or cs at c → drop at cs ≡ c ∷ drop (at + 1) cs
front_at cs at c l g = drop-cons cs at c l ∙ ap (λ x. x ∷ drop (suc at) cs) (sym g) ∙ ap (λ n. c ∷ drop n cs) (sym (add-one at))

pub body_quote : (c : ℕ) (cs : List ℕ) → c ≡ 34 → body 0 (c ∷ cs) ≡ Some ([], 1)
body_quote c cs e = ap (λ c. body 0 (c ∷ cs)) e

abbrev body_rest : ℕ → List ℕ → Option (ℕ × ℕ) → Option (List ℕ × ℕ)
body_rest c cs r = elim r [
  | None ↦ None
  | Some u ↦ option_map (λ r. (encode_utf8 u.0 ++ r.0, r.1 + 1)) (body u.1 cs)
]

body_unquoted : (c : ℕ) (cs : List ℕ) → (c ≡ 34 → ⊥) → body 0 (c ∷ cs) ≡ body_rest c cs (unit c cs)
body_unquoted c cs h = ap (λ b. cond b (Some ([], 1)) (body_rest c cs (unit c cs))) (eqb_no c 34 h)

pub body_bad : (c : ℕ) (cs : List ℕ) → (c ≡ 34 → ⊥) → unit c cs ≡ None → body 0 (c ∷ cs) ≡ None
body_bad c cs h e = body_unquoted c cs h ∙ ap (body_rest c cs) e

pub body_unit : (c : ℕ) (cs : List ℕ) (v more : ℕ) → (c ≡ 34 → ⊥) → unit c cs ≡ Some (v, more) → body 0 (c ∷ cs) ≡ after_body (encode_utf8 v) (more + 1) (body 0 (drop more cs))
body_unit c cs v more h e =
    body_unquoted c cs h ∙ ap (body_rest c cs) e
    ∙ ap (option_map (λ r. (encode_utf8 v ++ r.0, r.1 + 1))) (body_skip more cs) ∙ one_unit (encode_utf8 v) more (body 0 (drop more cs))

-- the same inside the characters of a body, of which `at` were read
pub body_unit_at : (cs : List ℕ) (at c v more : ℕ) (value : List ℕ) → at < length cs → c ≡ get_or cs at c → (c ≡ 34 → ⊥) → unit c (drop (at + 1) cs) ≡ Some (v, more)
    → body 0 cs ≡ after_body value at (body 0 (drop at cs)) → body 0 cs ≡ after_body (value ++ encode_utf8 v) (at + more + 1) (body 0 (drop (at + more + 1) cs))
body_unit_at cs at c v more value l g h e i =
    let whole : at + (more + 1) ≡ at + more + 1 = omega arith in
    let past : at + 1 + more ≡ at + more + 1 = omega arith in
    i
    ∙ ap (λ ds. after_body value at (body 0 ds)) (front_at cs at c l g)
    ∙ ap (after_body value at) (body_unit c (drop (at + 1) cs) v more h e)
    ∙ joined value (encode_utf8 v) at (more + 1) (body 0 (drop more (drop (at + 1) cs)))
    ∙ ap (λ ds. after_body (value ++ encode_utf8 v) (at + (more + 1)) (body 0 ds)) (drop-drop more (at + 1) cs ∙ ap (λ n. drop n cs) past)
    ∙ ap (λ n. after_body (value ++ encode_utf8 v) n (body 0 (drop (at + more + 1) cs))) whole

-- the characters from a place on, as the slice from there to the end
pub rest_from : (n : ℕ) (cs : List ℕ) → take (length cs - n) (drop n cs) ≡ drop n cs
rest_from n cs = take_all (length cs - n) (drop n cs) (let e = length-drop n cs in omega arith)

pub body_more : (c : ℕ) (cs : List ℕ) (v n : ℕ) → (c ≡ 34 → ⊥) → unit c cs ≡ Some (v, n) → body 0 (c ∷ cs) ≡ option_map (λ r. (encode_utf8 v ++ r.0, r.1 + 1)) (body n cs)
body_more c cs v n h e = body_unquoted c cs h ∙ ap (body_rest c cs) e
