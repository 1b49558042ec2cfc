-- What stands in a text, place after place.
use Rattle.std.proofs.Common.{◌≡◌, ◌≢◌, ◌≤◌, ◌⊎◌, ℕ, List, [], ◌∷◌, ◌++◌, drop, length, Option, Some, None, inl, inr, refl, ap, sym, subst, ◌∙◌}
use Rattle.std.specs.Prelude.{option_map}
use Rattle.std.specs.Str.{skip_leading_whitespace}
use Rattle.token_trees.specs.Text.{Piece}
use Rattle.rust_tokens.specs.Front.{front}
use Rattle.rust_tokens.specs.Reading.{Reads}
use Rattle.rust_tokens.specs.Faults.{Seen, seen, beyond, Sees}
use Rattle.rust_tokens.proofs.Readings.{past_past}
use Rattle.rust_tokens.proofs.Places.{Follows, past_follows, follows_on, follows_left}

abbrev past : List ℕ → List ℕ
past = skip_leading_whitespace

abbrev beyond_front : List ℕ → Option (Piece × ℕ) → List ℕ
beyond_front cs r = elim r [ None ↦ drop 1 cs | Some found ↦ drop found.1 cs ]

-- a token at the front
pub seen_token : (cs : List ℕ) (x : Piece) (n : ℕ) → front cs ≡ Some (x, n) → seen cs ≡ Some x
seen_token cs x n e = ap (option_map (λ found. found.0)) e

pub beyond_token : (cs : List ℕ) (x : Piece) (n : ℕ) → front cs ≡ Some (x, n) → beyond cs ≡ drop n cs
beyond_token cs x n e = ap (beyond_front cs) e

-- none
pub seen_none : (cs : List ℕ) → front cs ≡ None → seen cs ≡ None
seen_none cs e = ap (option_map (λ found. found.0)) e

pub beyond_none : (cs : List ℕ) → front cs ≡ None → beyond cs ≡ drop 1 cs
beyond_none cs e = ap (beyond_front cs) e

pub sees_past : (cs : List ℕ) (xs : List Seen) (rest : List ℕ) → Sees (past cs) xs rest → Sees cs xs rest
sees_past cs [] rest h = h ∙ past_past cs
sees_past cs (x ∷ xs) rest h = let P : List ℕ → Type 0 = λ ds. (ds ≢ []) × (seen ds ≡ x) × Sees (beyond ds) xs rest in subst P (past_past cs) h

pub past_sees : (cs : List ℕ) (xs : List Seen) (rest : List ℕ) → Sees cs xs rest → Sees (past cs) xs rest
past_sees cs [] rest h = h ∙ sym (past_past cs)
past_sees cs (x ∷ xs) rest h = let P : List ℕ → Type 0 = λ ds. (ds ≢ []) × (seen ds ≡ x) × Sees (beyond ds) xs rest in subst P (sym (past_past cs)) h

-- what is left is past white space
pub sight_past : (cs : List ℕ) (xs : List Seen) (rest : List ℕ) → Sees cs xs rest → past rest ≡ rest
sight_past cs [] rest h = ap past h ∙ past_past cs ∙ sym h
sight_past cs (x ∷ xs) rest h = sight_past (beyond (past cs)) xs rest h.2

pub sees_append : (cs : List ℕ) (xs ys : List Seen) (mid rest : List ℕ) → Sees cs xs mid → Sees mid ys rest → Sees cs (xs ++ ys) rest
sees_append cs [] ys mid rest h k = let P : List ℕ → Type 0 = λ ds. Sees ds ys rest in sees_past cs ys rest (subst P h k)
sees_append cs (x ∷ xs) ys mid rest h k = (h.0, h.1, sees_append (beyond (past cs)) xs ys mid rest h.2 k)

pub sees_split : (cs : List ℕ) (xs ys : List Seen) (rest : List ℕ) → Sees cs (xs ++ ys) rest → (mid : List ℕ) × Sees cs xs mid × Sees mid ys rest
sees_split cs [] ys rest h = (past cs, refl, past_sees cs ys rest h)
sees_split cs (x ∷ xs) ys rest h =
    let more = sees_split (beyond (past cs)) xs ys rest h.2 in
    (more.0, (h.0, h.1, more.1), more.2)

-- what is seen goes on as what else is seen from the same place
pub record Onward (xs ys : List Seen) (left rest : List ℕ) : Type 0 where
  pub more : List Seen
  pub whole : ys ≡ xs ++ more
  pub sees : Sees left more rest

pub compare_sights : (cs : List ℕ) (xs ys : List Seen) (left rest : List ℕ) → Sees cs xs left → Sees cs ys rest → Onward xs ys left rest ⊎ Onward ys xs rest left
compare_sights cs [] ys left rest h k =
    let P : List ℕ → Type 0 = λ ds. Sees ds ys rest in
    inl (record { more = ys; whole = refl; sees = subst P (sym h) (past_sees cs ys rest k) })
compare_sights cs (x ∷ xs) [] left rest h k =
    let P : List ℕ → Type 0 = λ ds. Sees ds (x ∷ xs) left in
    inr (record { more = x ∷ xs; whole = refl; sees = subst P (sym k) (past_sees cs (x ∷ xs) left h) })
compare_sights cs (x ∷ xs) (y ∷ ys) left rest h k =
    let same : x ≡ y = sym h.1 ∙ k.1 in
    elim (compare_sights (beyond (past cs)) xs ys left rest h.2 k.2) [
      | inl l ↦ inl (record { more = l.more; whole = ap (λ zs. y ∷ zs) l.whole ∙ ap (λ z. z ∷ (xs ++ l.more)) (sym same); sees = l.sees })
      | inr s ↦ inr (record { more = s.more; whole = ap (λ zs. x ∷ zs) s.whole ∙ ap (λ z. z ∷ (ys ++ s.more)) same; sees = s.sees })
    ]

beyond_case : (cs : List ℕ) (r : Option (Piece × ℕ)) → Follows cs (beyond_front cs r)
beyond_case cs None = record { skipped = 1; is = refl }
beyond_case cs (Some found) = record { skipped = found.1; is = refl }

pub sees_follows : (cs : List ℕ) (xs : List Seen) (rest : List ℕ) → Sees cs xs rest → Follows cs rest
sees_follows cs [] rest h = let f = past_follows cs in record { skipped = f.skipped; is = h ∙ f.is }
sees_follows cs (x ∷ xs) rest h =
    follows_on cs (past cs) rest (past_follows cs)
    (follows_on (past cs) (beyond (past cs)) rest (beyond_case (past cs) (front (past cs))) (sees_follows (beyond (past cs)) xs rest h.2))

pub sees_shorter : (cs : List ℕ) (xs : List Seen) (rest : List ℕ) → Sees cs xs rest → length rest ≤ length cs
sees_shorter cs xs rest h = (follows_left cs rest (sees_follows cs xs rest h)).0

-- tokens are seen as they are read
abbrev pub all_seen : List Piece → List Seen
all_seen [] = []
all_seen (x ∷ xs) = Some x ∷ all_seen xs

pub all_seen_append : (xs ys : List Piece) → all_seen (xs ++ ys) ≡ all_seen xs ++ all_seen ys
all_seen_append [] ys = refl
all_seen_append (x ∷ xs) ys = ap (λ zs. Some x ∷ zs) (all_seen_append xs ys)

pub reads_sees : (cs : List ℕ) (xs : List Piece) (rest : List ℕ) → Reads cs xs rest → Sees cs (all_seen xs) rest
reads_sees cs [] rest h = h
reads_sees cs (x ∷ xs) rest h =
    let P : List ℕ → Type 0 = λ ds. Sees ds (all_seen xs) rest in (
      λ e. let bad = sym (ap front e) ∙ h.1 in cc,
      seen_token (past cs) x h.0 h.1,
      subst P (sym (beyond_token (past cs) x h.0 h.1)) (reads_sees (drop h.0 (past cs)) xs rest h.2),
    )
