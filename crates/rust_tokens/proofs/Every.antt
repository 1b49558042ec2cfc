-- Every text has trees or a first fault.
use Rattle.std.proofs.Common.{◌≡◌, ◌≢◌, ◌≤◌, ◌<◌, ◌-◌, ◌⊎◌, ℕ, zero, suc, List, [], ◌∷◌, ◌++◌, drop, length, Option, Some, None, inl, inr, refl, ap, sym, ◌∙◌, arith, encode_utf8_all}
use Rattle.std.specs.Str.{skip_leading_whitespace}
use Rattle.std.proofs.lemmas.List.{length-drop}
use Rattle.token_trees.specs.declared.token.Span.{Span}
use Rattle.token_trees.specs.declared.token.Delimiter.{Delimiter}
use Rattle.token_trees.specs.Token.{Tok, word, mark, fixed, group, toks_of}
use Rattle.token_trees.specs.Text.{Piece, name, sign, constant, opens, closes, pieces_of}
use Rattle.rust_tokens.specs.Front.{front}
use Rattle.rust_tokens.specs.Reading.{IsLexed}
use Rattle.rust_tokens.specs.Faults.{seen, beyond, open_after_one, IsFirstFault}
use Rattle.rust_tokens.specs.Groups.{Level, opened, innermost, brackets, HasRead, IsStuck, no_front, wrong_bracket, AreClosed, FaultLeft, all_closed, one_unclosed}
use Rattle.rust_tokens.proofs.Balance.{same_delimiter}
use Rattle.rust_tokens.proofs.Exact.{none_closed}
use Rattle.rust_tokens.proofs.Firsts.{first_fault}
use Rattle.rust_tokens.proofs.Fronts.{opens_shown, takes_some}
use Rattle.rust_tokens.proofs.Levels.{innermost_last}
use Rattle.rust_tokens.proofs.Places.{past_follows, follows_left, encoded_end}
use Rattle.rust_tokens.proofs.Readings.{past_past, left_past}
use Rattle.rust_tokens.proofs.Seeking.{step_closed, closed_step, closed_past, past_closed, closed_at_end}
use Rattle.rust_tokens.proofs.Sights.{beyond_token, beyond_none, sees_follows}
use Rattle.rust_tokens.proofs.Steps.{at_start, after_leaf, after_open, after_close, at_end, at_fault, at_end_inside}

abbrev past : List ℕ → List ℕ
past = skip_leading_whitespace

past_shorter : (cs : List ℕ) → length (past cs) ≤ length cs
past_shorter cs = (follows_left cs (past cs) (past_follows cs)).0

token_shorter : (cs : List ℕ) (x : Piece) (n : ℕ) → 0 < length cs → front cs ≡ Some (x, n) → length (past (drop n cs)) < length cs
token_shorter cs x n some e = omega (arith, takes_some cs x n e, length-drop n cs, past_shorter (drop n cs))

beyond_case : (cs : List ℕ) (r : Option (Piece × ℕ)) → 0 < length cs → front cs ≡ r → length (past (beyond cs)) < length cs
beyond_case cs None some e = omega (arith, ap length (beyond_none cs e), length-drop 1 cs, past_shorter (beyond cs))
beyond_case cs (Some (x, n)) some e =
    omega (arith, ap length (beyond_token cs x n e), takes_some cs x n e, length-drop n cs, past_shorter (beyond cs))

-- open brackets are all closed, or not
all_or_not : (k : ℕ) (held : List Delimiter) (rest : List ℕ) → length rest < k → past rest ≡ rest → AreClosed held rest ⊎ (AreClosed held rest → ⊥)
all_or_not zero held rest l p = absurd (omega arith)
all_or_not (suc k) [] rest l p = inl (none_closed rest)
all_or_not (suc k) (d ∷ held) [] l p = inr (λ c. let none = closed_at_end (d ∷ held) [] refl c in cc)
all_or_not (suc k) (d ∷ held) (c ∷ cs) l p =
    let rest = c ∷ cs in
    let next = open_after_one (seen rest) (d ∷ held) in
    let short : length (past (beyond rest)) < length rest = beyond_case rest (front rest) (omega arith) refl in
    elim (all_or_not k next (past (beyond rest)) (omega arith) (past_past (beyond rest))) [
      | inl all ↦ inl (step_closed (d ∷ held) next rest (beyond rest) (λ e. cc) p refl refl (past_closed next (beyond rest) all))
      | inr not_all ↦ inr (λ all. not_all (closed_past next (beyond rest) (closed_step (d ∷ held) next rest (beyond rest) (λ e. cc) p refl refl all)))
    ]

abbrev Told : List ℕ → Span → Type 0
Told cs s = ((us : List Tok) × IsLexed cs s us) ⊎ ((left : ℕ) × FaultLeft cs left)

stuck_told : (cs : List ℕ) (s : Span) (ls : List Level) (ts : List Tok) (first : ℕ) (rest : List ℕ) → rest ≢ [] → HasRead cs s ls ts first rest → IsStuck ls rest → Told cs s
stuck_told cs s ls ts first rest some h stuck =
    elim (all_or_not (suc (length rest)) (brackets ls []) rest (omega arith) (left_past cs (opened ls ++ pieces_of ts) rest h.read)) [
      | inl all ↦ inr (length rest, at_fault cs s ls ts first rest (length rest) h stuck some (all_closed all refl))
      | inr not_all ↦ inr (first, at_fault cs s ls ts first rest first h stuck some (one_unclosed not_all refl))
    ]

-- the last of the open groups
record Inner (ls : List Level) : Type 0 where
  pub outer : List Level
  pub last : Level
  pub whole : ls ≡ outer ++ last ∷ []

inner_of : (l : Level) (ls : List Level) → Inner (l ∷ ls)
inner_of l [] = record { outer = []; last = l; whole = refl }
inner_of l (m ∷ ls) = let i = inner_of m ls in record { outer = l ∷ i.outer; last = i.last; whole = ap (λ ks. l ∷ ks) i.whole }

abbrev Onwards : List ℕ → Span → List ℕ → Type 0
Onwards cs s rest = (ls : List Level) (ts : List Tok) (first : ℕ) (after : List ℕ) → length after < length rest → HasRead cs s ls ts first after → Told cs s

close_told : (cs : List ℕ) (s : Span) (ls : List Level) (ts : List Tok) (first : ℕ) (rest : List ℕ) (d : Delimiter) (n : ℕ) → 0 < length rest → rest ≢ [] → front rest ≡ Some (closes d, n)
    → HasRead cs s ls ts first rest → Onwards cs s rest → Told cs s
close_told cs s [] ts first rest d n len some e h on = stuck_told cs s [] ts first rest some h (wrong_bracket d n e (λ k. cc))
close_told cs s (l ∷ ks) ts first rest d n len some e h on =
    let i = inner_of l ks in
    let top : innermost (l ∷ ks) ≡ Some i.last.delimiter = ap innermost i.whole ∙ innermost_last i.outer i.last in
    elim (same_delimiter i.last.delimiter d) [
      | inl same ↦
          let us = i.last.before ++ group d (toks_of ts) s ∷ [] in
          on i.outer us first (past (drop n rest)) (token_shorter rest (closes d) n len e)
          (after_close s (l ∷ ks) ts first rest d n i.outer us e
          (record {
            before = i.last.before;
            was = i.whole ∙ ap (λ k. i.outer ++ record { delimiter = k; before = i.last.before } ∷ []) same;
            now = refl;
          }) cs h)
      | inr apart ↦ stuck_told cs s (l ∷ ks) ts first rest some h (wrong_bracket d n e (λ k. let t = sym top ∙ k in apart (cc)))
    ]

token_told : (cs : List ℕ) (s : Span) (ls : List Level) (ts : List Tok) (first : ℕ) (rest : List ℕ) (r : Option (Piece × ℕ)) → 0 < length rest → rest ≢ [] → front rest ≡ r
    → HasRead cs s ls ts first rest → Onwards cs s rest → Told cs s
token_told cs s ls ts first rest None len some e h on = stuck_told cs s ls ts first rest some h (no_front e)
token_told cs s ls ts first rest (Some (name x, n)) len some e h on =
    on ls (ts ++ word x s ∷ []) first (past (drop n rest)) (token_shorter rest (name x) n len e) (after_leaf s ls ts first rest (name x) n (word x s) e refl refl cs h)
token_told cs s ls ts first rest (Some (sign c j, n)) len some e h on =
    on ls (ts ++ mark c j s ∷ []) first (past (drop n rest)) (token_shorter rest (sign c j) n len e) (after_leaf s ls ts first rest (sign c j) n (mark c j s) e refl refl cs h)
token_told cs s ls ts first rest (Some (constant k, n)) len some e h on =
    on ls (ts ++ fixed k s ∷ []) first (past (drop n rest)) (token_shorter rest (constant k) n len e) (after_leaf s ls ts first rest (constant k) n (fixed k s) e refl refl cs h)
token_told cs s ls ts first rest (Some (opens d, n)) len some e h on =
    on _ [] _ (past (drop n rest)) (token_shorter rest (opens d) n len e) (after_open s ls ts first rest d n e (opens_shown rest d n e) cs h)
token_told cs s ls ts first rest (Some (closes d, n)) len some e h on = close_told cs s ls ts first rest d n len some e h on

told : (k : ℕ) (cs : List ℕ) (s : Span) (ls : List Level) (ts : List Tok) (first : ℕ) (rest : List ℕ) → length rest < k → HasRead cs s ls ts first rest → Told cs s
told zero cs s ls ts first rest l h = absurd (omega arith)
told (suc k) cs s [] ts first [] l h = inl (ts, at_end cs s ts first [] refl h)
told (suc k) cs s (m ∷ ms) ts first [] l h = inr (first, at_end_inside cs s (m ∷ ms) ts first [] refl (λ e. cc) h)
told (suc k) cs s ls ts first (c ∷ more) l h =
    token_told cs s ls ts first (c ∷ more) (front (c ∷ more)) (omega arith) (λ e. cc) refl h
    (λ ms us next after short g. told k cs s ms us next after (omega arith) g)

placed : (cs : List ℕ) (s : Span) → Told cs s → ((us : List Tok) × IsLexed cs s us) ⊎ ((place : ℕ) × IsFirstFault cs place)
placed cs s (inl t) = inl t
placed cs s (inr f) =
    let h = f.1 in
    let there = follows_left cs h.rest (sees_follows cs h.before h.rest h.sees) in
    let place = length (encode_utf8_all cs) - length (encode_utf8_all h.rest) in
    let within : length (encode_utf8_all h.rest) ≤ length (encode_utf8_all cs) =
    omega (arith, encoded_end (length cs - length h.rest) cs, ap (λ ds. length (encode_utf8_all ds)) there.1) in
    inr (place, first_fault cs f.0 place h (omega arith))

pub every_text : (cs : List ℕ) (s : Span) → ((ts : List Tok) × IsLexed cs s ts) ⊎ ((place : ℕ) × IsFirstFault cs place)
every_text cs s = placed cs s (told (suc (length (past cs))) cs s [] [] 0 (past cs) (omega arith) (at_start cs s 0))
