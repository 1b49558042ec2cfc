-- Where a schema stands: the steps from the document's root, and their text (RFC 6901 in a fragment, without percent signs).
use Rattle.std.specs.Int.Digits.{digits_of}
use Rattle.std.specs.Prelude.{ℕ, zero, suc, ◌+◌, map, List, [], ◌∷◌, ◌++◌, ◌==◌, if◌then◌else◌}

-- a keyword, a member name, or the decimal digits of a place
abbrev pub Step : Type 0
Step = List ℕ

abbrev pub Location : Type 0
Location = List Step

-- the decimal digits of a place, however great
unfoldable pub place : ℕ → Step
place zero = 48 ∷ []
place (suc i) = map (λ d. 48 + d) (digits_of 10 (suc i))

-- `~` is written `~0`, and `/` is written `~1`
abbrev pub escaped : List ℕ → List ℕ
escaped [] = []
escaped (c ∷ cs) = if c == 126 then 126 ∷ 48 ∷ escaped cs else (if c == 47 then 126 ∷ 49 ∷ escaped cs else c ∷ escaped cs)

abbrev pub steps_text : Location → List ℕ
steps_text [] = []
steps_text (s ∷ ss) = 47 ∷ (escaped s ++ steps_text ss)

-- `#`, then `/` and each step
abbrev pub location_text : Location → List ℕ
location_text l = 35 ∷ steps_text l

-- the other way, in one pass: `~1` is `/`, `~0` is `~`, and any other character is itself
abbrev mutual
  pub unescaped : List ℕ → List ℕ
  unescaped [] = []
  unescaped (c ∷ cs) = if c == 126 then after_tilde cs else c ∷ unescaped cs

  pub after_tilde : List ℕ → List ℕ
  after_tilde [] = 126 ∷ []
  after_tilde (c ∷ cs) = if c == 48 then 126 ∷ unescaped cs else (if c == 49 then 47 ∷ unescaped cs else (if c == 126 then 126 ∷ after_tilde cs else 126 ∷ c ∷ unescaped cs))
