-- A verdict by what its accessors answer, and the lines of several.
use Rattle.std.proofs.Common.{◌≡◌, ℕ, zero, suc, ◌+◌, ◌<◌, List, [], ◌∷◌, ◌++◌, map, length, take, get_or, Some, ap, sym, ◌∙◌, append_assoc, append-nil, arith}
use Rattle.std.proofs.lemmas.List.{take_more, map-append, length-map, length-take-le}
use Rattle.serde_json.specs.Data.{Data}
use Rattle.schema_defs.specs.Location.{Location}
use Rattle.derive_model.specs.VerdictView.{VerdictD, taken, refused, written_of, refused_at}
use Rattle.typify_run.specs.Page.{verdict_line, verdict_lines, IsPrintable, ArePrintable}

pub taken_is : (v : VerdictD) (d : Data) → Some d ≡ written_of v → v ≡ taken d
taken_is (taken e) d h = let k : e ≡ d = cc in ap taken k
taken_is (refused l) d h = cc

pub refused_is : (v : VerdictD) (l : Location) → Some l ≡ refused_at v → v ≡ refused l
refused_is (taken e) l h = cc
refused_is (refused m) l h = let k : m ≡ l = cc in ap refused k

-- one more line
verdict_lines-push : (i : ℕ) (vs : List VerdictD) (v : VerdictD) → verdict_lines i (vs ++ v ∷ []) ≡ verdict_lines i vs ++ verdict_line (i + length vs) v
verdict_lines-push i [] v = append-nil (verdict_line i v) ∙ ap (λ n. verdict_line n v) (let e : i ≡ i + 0 = omega arith in e)
verdict_lines-push i (w ∷ ws) v =
    let e : suc i + length ws ≡ i + length (w ∷ ws) = omega arith in
    ap (λ ls. verdict_line i w ++ ls) (verdict_lines-push (suc i) ws v)
    ∙ sym (append_assoc (verdict_line i w) (verdict_lines (suc i) ws) (verdict_line (suc i + length ws) v))
    ∙ ap (λ n. verdict_lines i (w ∷ ws) ++ verdict_line n v) e

pub printable_at : {X : Type 0} → (f : X → VerdictD) (xs : List X) (i : ℕ) (d : X) → ArePrintable (map f xs) → i < length xs → IsPrintable (f (get_or xs i d))
printable_at f [] i d h k = absurd (omega arith)
printable_at f (x ∷ xs) zero d h k = h.0
printable_at f (x ∷ xs) (suc i) d h k = printable_at f xs i d h.1 (omega arith)

-- one more line, of a list that is gone over
pub verdict_lines-more : {X : Type 0} → (f : X → VerdictD) (xs : List X) (i : ℕ) (d : X) → i < length xs
    → verdict_lines 0 (map f (take (i + 1) xs)) ≡ verdict_lines 0 (map f (take i xs)) ++ verdict_line i (f (get_or xs i d))
verdict_lines-more f xs i d h =
    let cut : map f (take (i + 1) xs) ≡ map f (take i xs) ++ f (get_or xs i d) ∷ [] = ap (map f) (take_more xs i d h) ∙ map-append f (take i xs) (get_or xs i d ∷ []) in
    let len : length (map f (take i xs)) ≡ i = length-map (take i xs) f ∙ length-take-le i xs (omega (arith, h)) in
    ap (verdict_lines 0) cut ∙ verdict_lines-push 0 (map f (take i xs)) (f (get_or xs i d))
    ∙ ap (λ n. verdict_lines 0 (map f (take i xs)) ++ verdict_line n (f (get_or xs i d))) (let e : 0 + length (map f (take i xs)) ≡ i = omega (arith, len) in e)
