-- Where a line ends.
use Rattle.std.specs.Prelude.{◌≡◌, ◌+◌, ◌<◌, ℕ, List, ◌∷◌, ◌++◌, length, take, drop}
use Rattle.line_reader.specs.Lines.{feed, IsOpen}

-- the first line feed stands at place n
pub record IsFirstFeed (bytes : List ℕ) (n : ℕ) : Type 0 where
  pub within : n < length bytes
  pub before : IsOpen (take n bytes)
  pub parts : bytes ≡ take n bytes ++ feed ∷ drop (n + 1) bytes
