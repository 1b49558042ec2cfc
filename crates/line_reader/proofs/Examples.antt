-- Lines of bytes, by computation.
use Rattle.std.proofs.Common.{◌≡◌, ℕ, List, [], ◌∷◌, refl}
use Rattle.std.specs.Prelude.{codes}
use Rattle.line_reader.specs.Lines.{lines}

no_bytes : lines [] ≡ []
no_bytes = refl

-- behind the last line feed there is no line
ended_lines : lines (codes "a\nbc\n") ≡ codes "a" ∷ codes "bc" ∷ []
ended_lines = refl

-- a last line without an end is one
last_open : lines (codes "a\nbc") ≡ codes "a" ∷ codes "bc" ∷ []
last_open = refl

-- an empty line is one, and a carriage return stands in its line
empty_line : lines (codes "\n\na\r\n") ≡ [] ∷ [] ∷ codes "a\r" ∷ []
empty_line = refl
