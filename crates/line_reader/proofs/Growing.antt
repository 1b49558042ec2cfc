-- A line as it grows: kept while it is within the bound, and no longer once it is past it.
use Rattle.std.proofs.Common.{◌≡◌, ◌<◌, ◌≤◌, ◌+◌, ℕ, List, [], ◌∷◌, ◌++◌, Bool, true, false, length, refl, ap, sym, ◌∙◌, arith, length-append}
use Rattle.std.proofs.lemmas.Bool.{le-leb, lt-leb, leb-true, leb-false}
use Rattle.std.specs.Prelude.{nat_le, Option, Some, None, if◌then◌else◌}
use Rattle.line_reader.specs.Lines.{bound, kept}
use Rattle.line_reader.specs.Reading.{IsGrown}

-- what a test says of a line
kept_by : (l : List ℕ) (b : Bool) → nat_le (length l) bound ≡ b → kept l ≡ (if b then Some l else None)
kept_by l b e = ap (λ t. if t then Some l else None) e

pub kept_short : (l : List ℕ) → length l ≤ bound → kept l ≡ Some l
kept_short l h = kept_by l true (le-leb (length l) bound h)

pub kept_long : (l : List ℕ) → bound < length l → kept l ≡ None
kept_long l h = kept_by l false (lt-leb (length l) bound h)

-- what is kept says which lines are
short_when : (l bs : List ℕ) (b : Bool) → nat_le (length l) bound ≡ b → Some bs ≡ kept l → (bs ≡ l) × (length l ≤ bound)
short_when l bs true e h = (let k : Some bs ≡ Some l = h ∙ kept_by l true e in cc, leb-true (length l) bound e)
short_when l bs false e h = let k : Some bs ≡ None = h ∙ kept_by l false e in cc

pub short_is : (l bs : List ℕ) → Some bs ≡ kept l → (bs ≡ l) × (length l ≤ bound)
short_is l bs h = short_when l bs (nat_le (length l) bound) refl h

long_when : (l : List ℕ) (b : Bool) → nat_le (length l) bound ≡ b → None ≡ kept l → bound < length l
long_when l true e h = let k : None ≡ Some l = h ∙ kept_by l true e in cc
long_when l false e h = leb-false (length l) bound e

pub long_is : (l : List ℕ) → None ≡ kept l → bound < length l
long_is l h = long_when l (nat_le (length l) bound) refl h

pub grown_long : (line : Option (List ℕ)) (part : List ℕ) → line ≡ None → IsGrown line line part
grown_long line part none l e =
    none ∙ sym (kept_long (l ++ part) (omega (arith, length-append l part, long_is l (sym none ∙ e))))

pub grown_past : (line : Option (List ℕ)) (bs part : List ℕ) → line ≡ Some bs → bound < length bs + length part → IsGrown line None part
grown_past line bs part some h l e =
    let was : (bs ≡ l) × (length l ≤ bound) = short_is l bs (sym some ∙ e) in
    sym (kept_long (l ++ part) (omega (arith, length-append l part, ap length was.0)))

pub grown_short : (line : Option (List ℕ)) (bs part : List ℕ) → line ≡ Some bs → length bs + length part ≤ bound → IsGrown line (Some (bs ++ part)) part
grown_short line bs part some h l e =
    let was : (bs ≡ l) × (length l ≤ bound) = short_is l bs (sym some ∙ e) in
    ap (λ t. Some (t ++ part)) was.0 ∙ sym (kept_short (l ++ part) (omega (arith, length-append l part, ap length was.0)))
