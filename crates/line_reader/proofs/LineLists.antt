-- The first of the lines of bytes: up to the first line feed, or all of them.
use Rattle.std.proofs.Common.{◌≡◌, ℕ, List, [], ◌∷◌, ◌++◌, refl, ap, ◌∙◌}
use Rattle.std.specs.Prelude.{if◌then◌else◌}
use Rattle.line_reader.specs.Lines.{feed, begin_with, lines, IsOpen}

pub lines_ended : (l rest : List ℕ) → IsOpen l → lines (l ++ feed ∷ rest) ≡ l ∷ lines rest
lines_ended [] rest open_l = refl
lines_ended (b ∷ l) rest open_l =
    ap (λ t. if t then [] ∷ lines (l ++ feed ∷ rest) else begin_with b (lines (l ++ feed ∷ rest))) open_l.0
    ∙ ap (begin_with b) (lines_ended l rest open_l.1)

pub lines_last : (b : ℕ) (l : List ℕ) → IsOpen (b ∷ l) → lines (b ∷ l) ≡ (b ∷ l) ∷ []
lines_last b [] open_l = ap (λ t. if t then [] ∷ [] else begin_with b []) open_l.0
lines_last b (c ∷ l) open_l =
    ap (λ t. if t then [] ∷ lines (c ∷ l) else begin_with b (lines (c ∷ l))) open_l.0
    ∙ ap (begin_with b) (lines_last c l open_l.1)
