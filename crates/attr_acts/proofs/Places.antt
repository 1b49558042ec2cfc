-- Where a path is missing in a list of metas, and what stands after one.
use Rattle.std.proofs.Common.{◌≡◌, ℕ, zero, suc, ◌+◌, ◌≤◌, List, [], ◌∷◌, Bool, true, false, cond, Some, None, take, drop, length, refl, ap, sym, ◌∙◌, arith}
use Rattle.std.specs.Prelude.{Option, option_map}
use Rattle.token_trees.specs.declared.token.Span.{Span}
use Rattle.token_trees.specs.Token.{Tok}
use Rattle.syntax_trees.specs.Metas.{is_word, is_sign, colons_next, names_len, no_name, path_len, no_path, rest_of, before_comma, from_comma, place}
use Rattle.syntax_trees.proofs.Metas.{names_len_cons, no_name_cons}
use Rattle.attr_acts.proofs.Pieces.{before_past, from_past, before_at, from_at, word_no_comma, two_before, two_from, colons_before}

mapped_none : (k : ℕ) (o : Option ℕ) → option_map (λ n. n + k) o ≡ None → o ≡ None
mapped_none k None h = refl
mapped_none k (Some n) h = cc

abbrev piece_end : Span → List Tok → Span
piece_end at ts = place at (from_comma ts)

-- the place in the first piece, and in the whole
abbrev SamePlace : Span → List Tok → Type 0
SamePlace at ts = place (piece_end at ts) (no_name (before_comma ts)) ≡ place at (no_name ts)

no_word_place : (at : Span) (t : Tok) (us : List Tok) (b : Bool) → is_sign 44 t ≡ b → is_word t ≡ false → SamePlace at (t ∷ us)
no_word_place at t us true h k =
    let whole = no_name_cons t us ∙ ap (λ w. cond w (no_name (rest_of (rest_of us))) (t ∷ us)) k in
    ap (λ ts. place (piece_end at (t ∷ us)) (no_name ts)) (before_at t us h) ∙ ap (place at) (from_at t us h) ∙ sym (ap (place at) whole)
no_word_place at t us false h k =
    let whole = no_name_cons t us ∙ ap (λ w. cond w (no_name (rest_of (rest_of us))) (t ∷ us)) k in
    let front = no_name_cons t (before_comma us) ∙ ap (λ w. cond w (no_name (rest_of (rest_of (before_comma us)))) (t ∷ before_comma us)) k in
    ap (λ ts. place (piece_end at (t ∷ us)) (no_name ts)) (before_past t us h) ∙ ap (place (piece_end at (t ∷ us))) front ∙ sym (ap (place at) whole)

word_place : (at : Span) (t : Tok) (us : List Tok) → is_word t ≡ true → colons_next us ≡ true → SamePlace at (rest_of (rest_of us)) → SamePlace at (t ∷ us)
word_place at t us k c e =
    let h = word_no_comma t k in
    let whole = no_name_cons t us ∙ ap (λ w. cond w (no_name (rest_of (rest_of us))) (t ∷ us)) k in
    let front = no_name_cons t (before_comma us) ∙ ap (λ w. cond w (no_name (rest_of (rest_of (before_comma us)))) (t ∷ before_comma us)) k in
    ap (λ ts. place (piece_end at (t ∷ us)) (no_name ts)) (before_past t us h)
    ∙ ap (place (piece_end at (t ∷ us))) (front ∙ ap no_name (two_before us c))
    ∙ ap (λ ts. place (place at ts) (no_name (before_comma (rest_of (rest_of us))))) (from_past t us h ∙ two_from us c)
    ∙ e
    ∙ sym (ap (place at) whole)

more_none : (t : Tok) (us : List Tok) (c : Bool) → is_word t ≡ true → colons_next us ≡ c → names_len (t ∷ us) ≡ None → (colons_next us ≡ true) × (names_len (rest_of (rest_of us)) ≡ None)
more_none t us true k h e =
    let z = sym (names_len_cons t us ∙ ap (λ w. cond w (cond (colons_next us) (option_map (λ n. n + 3) (names_len (rest_of (rest_of us)))) (Some 1)) None) k ∙ ap (λ c. cond c (option_map (λ n. n + 3) (names_len (rest_of (rest_of us)))) (Some 1)) h) ∙ e in
    (h, mapped_none 3 (names_len (rest_of (rest_of us))) z)
more_none t us false k h e =
    let z = sym (names_len_cons t us ∙ ap (λ w. cond w (cond (colons_next us) (option_map (λ n. n + 3) (names_len (rest_of (rest_of us)))) (Some 1)) None) k ∙ ap (λ c. cond c (option_map (λ n. n + 3) (names_len (rest_of (rest_of us)))) (Some 1)) h) ∙ e in
    let absent : ◌≡◌ {A = Option ℕ} (Some 1) None = z in cc

same_place_by : (at : Span) (t : Tok) (us : List Tok) (b : Bool) → is_word t ≡ b → names_len (t ∷ us) ≡ None → (names_len (rest_of (rest_of us)) ≡ None → SamePlace at (rest_of (rest_of us))) → SamePlace at (t ∷ us)
same_place_by at t us false k e f = no_word_place at t us (is_sign 44 t) refl k
same_place_by at t us true k e f =
    let m = more_none t us (colons_next us) k refl e in word_place at t us k m.0 (f m.1)

same_place : (at : Span) (ts : List Tok) → names_len ts ≡ None → SamePlace at ts
same_place at [] e = refl
same_place at (t ∷ []) e = same_place_by at t [] (is_word t) refl e (λ h. refl)
same_place at (t ∷ u ∷ []) e = same_place_by at t (u ∷ []) (is_word t) refl e (λ h. refl)
same_place at (t ∷ u ∷ v ∷ ts) e = same_place_by at t (u ∷ v ∷ ts) (is_word t) refl e (λ h. same_place at ts h)

no_path_by : (at : Span) (ts : List Tok) (c : Bool) → colons_next ts ≡ c → path_len ts ≡ None → place (place at (from_comma ts)) (no_path (before_comma ts)) ≡ place at (no_path ts)
no_path_by at ts false h e =
    let n = sym (ap (λ c. cond c (option_map (λ n. n + 2) (names_len (rest_of (rest_of ts)))) (names_len ts)) h) ∙ e in
    ap (λ c. place (place at (from_comma ts)) (cond c (no_name (rest_of (rest_of (before_comma ts)))) (no_name (before_comma ts)))) (colons_before ts ∙ h)
    ∙ same_place at ts n
    ∙ sym (ap (λ c. place at (cond c (no_name (rest_of (rest_of ts))) (no_name ts))) h)
no_path_by at ts true h e =
    let n = sym (ap (λ c. cond c (option_map (λ n. n + 2) (names_len (rest_of (rest_of ts)))) (names_len ts)) h) ∙ e in
    ap (λ c. place (place at (from_comma ts)) (cond c (no_name (rest_of (rest_of (before_comma ts)))) (no_name (before_comma ts)))) (colons_before ts ∙ h)
    ∙ ap (λ us. place (place at (from_comma ts)) (no_name us)) (two_before ts h)
    ∙ ap (λ us. place (place at us) (no_name (before_comma (rest_of (rest_of ts))))) (two_from ts h)
    ∙ same_place at (rest_of (rest_of ts)) (mapped_none 2 (names_len (rest_of (rest_of ts))) n)
    ∙ sym (ap (λ c. place at (cond c (no_name (rest_of (rest_of ts))) (no_name ts))) h)

-- the place where a path is missing is the same in the first piece
pub no_path_before : (at : Span) (ts : List Tok) → path_len ts ≡ None → place (place at (from_comma ts)) (no_path (before_comma ts)) ≡ place at (no_path ts)
no_path_before at ts e = no_path_by at ts (colons_next ts) refl e

pub record IsSplitAt (n : ℕ) (ts : List Tok) : Type 0 where
  pub front : take n (before_comma ts) ≡ take n ts
  pub rest : drop n (before_comma ts) ≡ before_comma (drop n ts)
  pub after : from_comma (drop n ts) ≡ from_comma ts

split_by : (n : ℕ) (t : Tok) (ts : List Tok) (b : Bool) → is_sign 44 t ≡ b → (n ≤ length (before_comma ts) → IsSplitAt n ts) → suc n ≤ length (before_comma (t ∷ ts)) → IsSplitAt (suc n) (t ∷ ts)
split_by n t ts true h f k = let z : length (before_comma (t ∷ ts)) ≡ 0 = ap length (before_at t ts h) in absurd (omega arith)
split_by n t ts false h f k =
    let p = before_past t ts h in
    let z : length (before_comma (t ∷ ts)) ≡ suc (length (before_comma ts)) = ap length p in
    let l : n ≤ length (before_comma ts) = omega arith in
    let r = f l in
    record {
      front = ap (take (suc n)) p ∙ ap (λ us. t ∷ us) r.front;
      rest = ap (drop (suc n)) p ∙ r.rest;
      after = r.after ∙ sym (from_past t ts h);
    }

-- a front of the first piece is one of the whole, and what follows it ends where the piece does
pub split_before : (n : ℕ) (ts : List Tok) → n ≤ length (before_comma ts) → IsSplitAt n ts
split_before zero ts h = record { front = refl; rest = refl; after = refl }
split_before (suc n) [] h = record { front = refl; rest = refl; after = refl }
split_before (suc n) (t ∷ ts) h = split_by n t ts (is_sign 44 t) refl (split_before n ts) h
