-- What is known while the partners of open brackets are sought.
use Rattle.std.specs.Prelude.{◌≡◌, ◌≤◌, ◌<◌, ℕ, List, ◌∷◌, None, drop, length, reverse}
use Rattle.token_trees.specs.declared.token.Delimiter.{Delimiter}
use Rattle.rust_tokens.specs.declared.partners.Partners.{Partners}
use Rattle.rust_tokens.specs.Front.{body, front}

-- the open brackets, the innermost first
abbrev pub held : Partners → List Delimiter
held p = reverse p.open_brackets.items

-- before the last `left` characters no string literal begins
abbrev pub IsBarren : List ℕ → ℕ → Type 0
IsBarren cs left = (k : ℕ) (ds : List ℕ) → drop k cs ≡ 34 ∷ ds → left ≤ length ds → front (34 ∷ ds) ≡ None

-- where those characters aren't the rest of a string literal, neither is what follows a quote among the first n
abbrev pub IsBarrenBody : List ℕ → ℕ → Type 0
IsBarrenBody cs n = (k : ℕ) (ds : List ℕ) → k < n → drop k cs ≡ 34 ∷ ds → body 0 cs ≡ None → body 0 ds ≡ None
