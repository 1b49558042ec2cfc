-- Tokens read one after the other.
use Rattle.std.proofs.Common.{◌≡◌, ℕ, Bool, true, false, List, [], ◌∷◌, ◌++◌, cond, drop, Some, refl, ap, sym, subst, ◌∙◌}
use Rattle.std.specs.Char.{is_whitespace}
use Rattle.std.specs.Str.{skip_leading_whitespace}
use Rattle.token_trees.specs.Text.{Piece}
use Rattle.rust_tokens.specs.Front.{front}
use Rattle.rust_tokens.specs.Reading.{Reads}

abbrev past : List ℕ → List ℕ
past = skip_leading_whitespace

past_case : (c : ℕ) (cs : List ℕ) (b : Bool) → is_whitespace c ≡ b → past (past cs) ≡ past cs → past (cond b (past cs) (c ∷ cs)) ≡ cond b (past cs) (c ∷ cs)
past_case c cs true e h = h
past_case c cs false e h = ap (λ b. cond b (past cs) (c ∷ cs)) e

pub past_past : (cs : List ℕ) → past (past cs) ≡ past cs
past_past [] = refl
past_past (c ∷ cs) = past_case c cs (is_whitespace c) refl (past_past cs)

-- what is left is past white space
pub left_past : (cs : List ℕ) (xs : List Piece) (rest : List ℕ) → Reads cs xs rest → past rest ≡ rest
left_past cs [] rest h = ap past h ∙ past_past cs ∙ sym h
left_past cs (x ∷ xs) rest h = left_past (drop h.0 (past cs)) xs rest h.2

pub reads_past : (cs : List ℕ) (xs : List Piece) (rest : List ℕ) → Reads (past cs) xs rest → Reads cs xs rest
reads_past cs [] rest h = h ∙ past_past cs
reads_past cs (x ∷ xs) rest h =
    let P : List ℕ → Type 0 = λ ds. Reads (drop h.0 ds) xs rest in
    (h.0, ap front (sym (past_past cs)) ∙ h.1, subst P (past_past cs) h.2)

pub past_reads : (cs : List ℕ) (xs : List Piece) (rest : List ℕ) → Reads cs xs rest → Reads (past cs) xs rest
past_reads cs [] rest h = h ∙ sym (past_past cs)
past_reads cs (x ∷ xs) rest h =
    let P : List ℕ → Type 0 = λ ds. Reads (drop h.0 ds) xs rest in
    (h.0, ap front (past_past cs) ∙ h.1, subst P (sym (past_past cs)) h.2)

pub reads_append : (cs : List ℕ) (xs ys : List Piece) (mid rest : List ℕ) → Reads cs xs mid → Reads mid ys rest → Reads cs (xs ++ ys) rest
reads_append cs [] ys mid rest h k =
    let P : List ℕ → Type 0 = λ ds. Reads ds ys rest in
    reads_past cs ys rest (subst P h k)
reads_append cs (x ∷ xs) ys mid rest h k = (h.0, h.1, reads_append (drop h.0 (past cs)) xs ys mid rest h.2 k)

pub reads_split : (cs : List ℕ) (xs ys : List Piece) (rest : List ℕ) → Reads cs (xs ++ ys) rest → (mid : List ℕ) × Reads cs xs mid × Reads mid ys rest
reads_split cs [] ys rest h = (past cs, refl, past_reads cs ys rest h)
reads_split cs (x ∷ xs) ys rest h =
    let more = reads_split (drop h.0 (past cs)) xs ys rest h.2 in
    (more.0, (h.0, h.1, more.1), more.2)

-- one token
pub reads_one : (cs : List ℕ) (x : Piece) (n : ℕ) → past cs ≡ cs → front cs ≡ Some (x, n) → Reads cs (x ∷ []) (past (drop n cs))
reads_one cs x n h e = (n, ap front h ∙ e, ap (λ ds. past (drop n ds)) (sym h))

-- one token stands at the front of a text
pub same_front : (p q : Piece × ℕ) → Some p ≡ Some q → (p.0 ≡ q.0) × (p.1 ≡ q.1)
same_front p q h = let e : p ≡ q = cc in (ap (λ r. r.0) e, ap (λ r. r.1) e)

pub reads_same : (cs : List ℕ) (xs : List Piece) (left rest : List ℕ) → Reads cs xs left → Reads cs xs rest → left ≡ rest
reads_same cs [] left rest h k = h ∙ sym k
reads_same cs (x ∷ xs) left rest h k =
    let both = same_front (x, h.0) (x, k.0) (sym h.1 ∙ k.1) in
    let steps : k.0 ≡ h.0 = sym both.1 in
    let P : ℕ → Type 0 = λ n. Reads (drop n (past cs)) xs rest in
    reads_same (drop h.0 (past cs)) xs left rest h.2 (subst P steps k.2)
