-- The lines of bytes: each ends before a line feed, and so does the last one, or at the end of the bytes. A carriage return is a byte as any other.
use Rattle.std.specs.Prelude.{◌≡◌, ℕ, List, [], ◌∷◌, length, nat_eq, nat_le, false, Option, Some, None, if◌then◌else◌}
use Rattle.std.specs.List.{AllByRecursion}

-- a line feed
abbrev pub feed : ℕ
feed = 10

-- one byte more before the first of some lines
abbrev pub begin_with : ℕ → List (List ℕ) → List (List ℕ)
begin_with b [] = (b ∷ []) ∷ []
begin_with b (l ∷ ls) = (b ∷ l) ∷ ls

-- behind the last line feed there is a line only where there are bytes
abbrev pub lines : List ℕ → List (List ℕ)
lines [] = []
lines (b ∷ bs) = if nat_eq b feed then [] ∷ lines bs else begin_with b (lines bs)

-- no line ends within the bytes
abbrev pub IsOpen : List ℕ → Type 0
IsOpen bs = AllByRecursion (λ b. nat_eq b feed ≡ false) bs

-- the most bytes of a line that is kept
abbrev pub bound : ℕ
bound = 1048576

-- a line as it is kept: its bytes, or none where it has more than the bound
abbrev pub kept : List ℕ → Option (List ℕ)
kept l = if nat_le (length l) bound then Some l else None

-- the most bytes that are read
abbrev pub most : ℕ
most = 4294967296
