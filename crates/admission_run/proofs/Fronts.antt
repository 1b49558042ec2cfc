-- The lines of answers that are gone over.
use Rattle.std.proofs.Common.{◌≡◌, ℕ, suc, ◌+◌, ◌<◌, List, [], ◌∷◌, ◌++◌, length, take, get_or, Bool, ap, sym, ◌∙◌, append_assoc, append-nil, arith}
use Rattle.std.proofs.lemmas.List.{take_more, length-take-le}
use Rattle.admission_run.specs.Page.{verdict_line, lines_from}

-- one more line
lines_from-push : (i : ℕ) (bs : List Bool) (b : Bool) → lines_from i (bs ++ b ∷ []) ≡ lines_from i bs ++ verdict_line (i + length bs) b
lines_from-push i [] b = append-nil (verdict_line i b) ∙ ap (λ n. verdict_line n b) (let e : i ≡ i + 0 = omega arith in e)
lines_from-push i (a ∷ bs) b =
    let e : suc i + length bs ≡ i + length (a ∷ bs) = omega arith in
    ap (λ ls. verdict_line i a ++ ls) (lines_from-push (suc i) bs b)
    ∙ sym (append_assoc (verdict_line i a) (lines_from (suc i) bs) (verdict_line (suc i + length bs) b))
    ∙ ap (λ n. lines_from i (a ∷ bs) ++ verdict_line n b) e

-- one more line, of answers that are gone over
pub lines-more : (bs : List Bool) (i : ℕ) (d : Bool) → i < length bs → lines_from 0 (take (i + 1) bs) ≡ lines_from 0 (take i bs) ++ verdict_line i (get_or bs i d)
lines-more bs i d h =
    let len : length (take i bs) ≡ i = length-take-le i bs (omega (arith, h)) in
    ap (lines_from 0) (take_more bs i d h) ∙ lines_from-push 0 (take i bs) (get_or bs i d)
    ∙ ap (λ n. lines_from 0 (take i bs) ++ verdict_line n (get_or bs i d)) (let e : 0 + length (take i bs) ≡ i = omega (arith, len) in e)
