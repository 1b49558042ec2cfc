-- The page: of each value, counted from 0, whether it is admitted, on a line.
use Rattle.std.specs.Prelude.{ℕ, suc, List, [], ◌∷◌, ◌++◌, Bool, true, false, codes, decimal}

abbrev pub said : Bool → List ℕ
said true = codes "admitted"
said false = codes "refused"

-- `value`, the value's number, and what is said of it
abbrev pub verdict_line : ℕ → Bool → List ℕ
verdict_line i admitted = codes "value " ++ decimal i ++ codes " " ++ said admitted ++ codes "\n"

abbrev pub lines_from : ℕ → List Bool → List ℕ
lines_from i [] = []
lines_from i (b ∷ bs) = verdict_line i b ++ lines_from (suc i) bs

abbrev pub page : List Bool → List ℕ
page answers = lines_from 0 answers
