-- The words `sample N`.
use Rattle.std.specs.Prelude.{ℕ, ◌+◌, ◌-◌, ◌*◌, ◌&&◌, List, [], ◌∷◌, Option, None, bytes_eq, codes, if◌then◌else◌}
use Rattle.typify_run.specs.Words.{is_digit, is_leading, up_to}

-- one to three decimal digits without sign or leading zero, from 1 to 999
abbrev pub count_of : List ℕ → Option ℕ
count_of (a ∷ []) = up_to 999 (is_leading a) (a - 48)
count_of (a ∷ b ∷ []) = up_to 999 (is_leading a && is_digit b) ((a - 48) * 10 + (b - 48))
count_of (a ∷ b ∷ c ∷ []) = up_to 999 (is_leading a && is_digit b && is_digit c) (((a - 48) * 10 + (b - 48)) * 10 + (c - 48))
count_of _ = None

-- the number that `sample N` says; none for any other words
abbrev pub sample_said : List (List ℕ) → Option ℕ
sample_said (w ∷ d ∷ []) = if bytes_eq w (codes "sample") then count_of d else None
sample_said _ = None
