-- The places of a text at which something is wrong, and the first of them.
use Rattle.std.specs.Prelude.{◌≡◌, ◌≢◌, ◌≤◌, ℕ, ◌+◌, List, [], ◌∷◌, Option, Some, None, option_map, drop, length, encode_utf8_all}
use Rattle.std.specs.Str.{skip_leading_whitespace}
use Rattle.token_trees.specs.declared.token.Delimiter.{Delimiter}
use Rattle.token_trees.specs.declared.token.Delimiter.TheVariants.{Parenthesis, Brace, Bracket, None as hidden}
use Rattle.token_trees.specs.Text.{Piece, opens, closes}
use Rattle.rust_tokens.specs.declared.error.LexError.{LexError}
use Rattle.rust_tokens.specs.declared.error.LexError.TheVariants.{Memory, Bad}
use Rattle.rust_tokens.specs.Front.{front}

-- What stands at a place: a token, or a character that begins none.
abbrev pub Seen : Type 0
Seen = Option Piece

abbrev pub seen : List ℕ → Seen
seen cs = option_map (λ found. found.0) (front cs)

-- what follows it
abbrev pub beyond : List ℕ → List ℕ
beyond cs = elim (front cs) [ None ↦ drop 1 cs | Some found ↦ drop found.1 cs ]

-- From the front of cs on those stand one after the other, with white space passed before each, and then comes `rest`.
abbrev pub Sees : List ℕ → List Seen → List ℕ → Type 0
Sees cs [] rest = rest ≡ skip_leading_whitespace cs
Sees cs (x ∷ xs) rest =
    (skip_leading_whitespace cs ≢ []) × (seen (skip_leading_whitespace cs) ≡ x) × Sees (beyond (skip_leading_whitespace cs)) xs rest

-- the open brackets, the innermost first, after a closing one: the innermost goes where that is its partner
abbrev pub closed : Delimiter → List Delimiter → List Delimiter
closed Parenthesis (Parenthesis ∷ outer) = outer
closed Brace (Brace ∷ outer) = outer
closed Bracket (Bracket ∷ outer) = outer
closed hidden (hidden ∷ outer) = outer
closed d held = held

abbrev pub open_after_one : Seen → List Delimiter → List Delimiter
open_after_one (Some (opens d)) held = d ∷ held
open_after_one (Some (closes d)) held = closed d held
open_after_one x held = held

-- the open brackets, the innermost first, after all that, where `held` were open before
abbrev pub open_after : List Seen → List Delimiter → List Delimiter
open_after [] held = held
open_after (x ∷ xs) held = open_after xs (open_after_one x held)

-- What is wrong at the front of `rest`, where the brackets `held` are open: no token begins there, or a closing bracket
-- stands there that isn't the partner of the innermost open one, or an opening one that nothing closes.
pub data IsWrong (held : List Delimiter) (rest : List ℕ) : Type 0 where
  no_token : rest ≢ [] → front rest ≡ None → IsWrong held rest
  unopened : (d : Delimiter) (n : ℕ) → front rest ≡ Some (closes d, n) → ((outer : List Delimiter) → held ≢ d ∷ outer) → IsWrong held rest
  unclosed : (d : Delimiter) (n : ℕ) → front rest ≡ Some (opens d, n)
      → ((xs : List Seen) (after : List ℕ) → Sees (drop n rest) xs after → open_after xs (d ∷ []) ≢ []) → IsWrong held rest

-- a faulty place of a text, by the bytes before it
pub record IsFaulty (cs : List ℕ) (place : ℕ) : Type 0 where
  pub before : List Seen
  pub rest : List ℕ
  pub sees : Sees cs before rest
  pub wrong : IsWrong (open_after before []) rest
  pub place_is : place + length (encode_utf8_all rest) ≡ length (encode_utf8_all cs)

-- the least of a text's faulty places
pub record IsFirstFault (cs : List ℕ) (place : ℕ) : Type 0 where
  pub faulty : IsFaulty cs place
  pub least : (other : ℕ) → IsFaulty cs other → place ≤ other

-- why a text has no trees: memory is wanted, which says nothing of the text, or its first fault stands at that place
abbrev pub IsCause : List ℕ → LexError → Type 0
IsCause cs Memory = Unit {0}
IsCause cs (Bad place) = IsFirstFault cs place
