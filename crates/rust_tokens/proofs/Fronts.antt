-- What can stand at the front.
use Rattle.std.proofs.Common.{◌≡◌, ◌≢◌, ◌<◌, ◌+◌, ℕ, Bool, true, false, List, [], ◌∷◌, ap, subst, cond, Option, Some, None, arith}
use Rattle.std.specs.Prelude.{option_map, ◌==◌, ◌&&◌}
use Rattle.std.specs.Char.{is_ascii_digit}
use Rattle.token_trees.specs.declared.token.Delimiter.{Delimiter}
use Rattle.token_trees.specs.declared.token.Delimiter.TheVariants.{None as hidden}
use Rattle.token_trees.specs.Text.{Piece, opens}
use Rattle.rust_tokens.specs.Front.{front, body, bracket, is_punctuation, begins_name, is_raw_rest}

-- a token takes a character, and is no hidden bracket
abbrev IsSound : Piece × ℕ → Type 0
IsSound p = (p.0 ≡ opens hidden → ⊥) × (0 < p.1)

abbrev AreSound : Option (Piece × ℕ) → Type 0
AreSound r = (p : Piece × ℕ) → r ≡ Some p → IsSound p

either : (b : Bool) (x y : Option (Piece × ℕ)) → AreSound x → AreSound y → AreSound (cond b x y)
either true x y h k = h
either false x y h k = k

one : (p : Piece × ℕ) → IsSound p → AreSound (Some p)
one p h q e = let same : p ≡ q = cc in let P : Piece × ℕ → Type 0 = IsSound in subst P same h

none : AreSound None
none p e = absurd (cc)

mapped : (r : Option (List ℕ × ℕ)) (f : List ℕ × ℕ → Piece × ℕ) → ((q : List ℕ × ℕ) → IsSound (f q)) → AreSound (option_map f r)
mapped None f h = none
mapped (Some q) f h = one (f q) (h q)

span_some : (b : Bool) (m n : ℕ) → 0 < cond b (m + 3) (n + 1)
span_some true m n = omega arith
span_some false m n = omega arith

bracket_sound : (c : ℕ) → AreSound (bracket c)
bracket_sound c =
    either (c == 40) _ _ (one _ (λ k. cc, omega arith)) (either (c == 41) _ _ (one _ (λ k. cc, omega arith)) (either (c == 91) _ _ (one _ (λ k. cc, omega arith))
    (either (c == 93) _ _ (one _ (λ k. cc, omega arith)) (either (c == 123) _ _ (one _ (λ k. cc, omega arith)) (either (c == 125) _ _ (one _ (λ k. cc, omega arith)) none)))))

front_sound : (cs : List ℕ) → AreSound (front cs)
front_sound [] = none
front_sound (c ∷ cs) =
    either (is_ascii_digit c) _ _ (one _ (λ k. cc, omega arith))
    (either (c == 34) _ _ (mapped (body 0 cs) _ (λ q. (λ k. cc, omega arith)))
    (either (is_punctuation c) _ _ (one _ (λ k. cc, omega arith))
    (either (begins_name c) _ _ (one _ (λ k. cc, span_some ((c == 114) && is_raw_rest cs) _ _)) (bracket_sound c))))

-- an opening bracket is shown
pub opens_shown : (cs : List ℕ) (d : Delimiter) (n : ℕ) → front cs ≡ Some (opens d, n) → d ≢ hidden
opens_shown cs d n e h = (front_sound cs (opens d, n) e).0 (ap opens h)

pub takes_some : (cs : List ℕ) (x : Piece) (n : ℕ) → front cs ≡ Some (x, n) → 0 < n
takes_some cs x n e = (front_sound cs (x, n) e).1
