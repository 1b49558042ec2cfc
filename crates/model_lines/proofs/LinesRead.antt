-- What is known of the lines of a source that tells its bytes.
use Rattle.std.proofs.Common.{◌≡◌, ◌≤◌, ◌<◌, ◌+◌, ◌⊎◌, inl, inr, ℕ, List, [], ◌∷◌, ◌++◌, Some, None, length, refl, ap, sym, ◌∙◌, subst, append_assoc, arith, length-append}
use Rattle.std.proofs.lemmas.List.{append-nil}
use Rattle.std.specs.Prelude.{◌≢◌, IfSome, if◌then◌else◌}
use Rattle.std.specs.declared.option.Option.{Option}
use Rattle.std.specs.List.{AllByRecursion}
use Rattle.run_io.specs.Bytes.{IsSpent, Takes}
use Rattle.line_reader.specs.Lines.{feed, lines, begin_with, bound, most, IsOpen}
use Rattle.line_reader.proofs.LineLists.{lines_ended, lines_last}
use Rattle.serde_json.specs.Data.{Data}
use Rattle.model_lines.specs.Answers.{IsJson}
use Rattle.model_lines.specs.Outcome.{AreAll, AreFirst, HasNoDocument, ended}

pub ended_more : (ls : List (List ℕ)) (l : List ℕ) → ended (ls ++ l ∷ []) ≡ ended ls ++ (l ++ feed ∷ [])
ended_more [] l = append-nil (l ++ feed ∷ [])
ended_more (k ∷ ls) l = ap (λ t. (k ++ feed ∷ []) ++ t) (ended_more ls l) ∙ sym (append_assoc (k ++ feed ∷ []) (ended ls) (l ++ feed ∷ []))

pub open_more : (ls : List (List ℕ)) (l : List ℕ) → AllByRecursion IsOpen ls → IsOpen l → AllByRecursion IsOpen (ls ++ l ∷ [])
open_more [] l a b = (b, tt)
open_more (k ∷ ls) l a b = (a.0, open_more ls l a.1 b)

pub lines_of_ended : (ls : List (List ℕ)) (rest : List ℕ) → AllByRecursion IsOpen ls → lines (ended ls ++ rest) ≡ ls ++ lines rest
lines_of_ended [] rest a = refl
lines_of_ended (l ∷ ls) rest a =
    ap lines (append_assoc (l ++ feed ∷ []) (ended ls) rest ∙ append_assoc l (feed ∷ []) (ended ls ++ rest))
    ∙ lines_ended l (ended ls ++ rest) a.0 ∙ ap (λ t. l ∷ t) (lines_of_ended ls rest a.1)

pub lines_open : (l : List ℕ) → l ≢ [] → IsOpen l → lines l ≡ l ∷ []
lines_open [] some o = absurd (some refl)
lines_open (b ∷ l) some o = lines_last b l o

-- the first of the lines
pub first_read : (left now : Option (List ℕ)) (ls : List (List ℕ)) (rest : List ℕ) → Takes left now (ended ls ++ rest) → AllByRecursion IsOpen ls → AreFirst left ls
first_read None now ls rest e a = tt
first_read (Some all) None ls rest e a = cc
first_read (Some all) (Some more) ls rest e a =
    let f : all ≡ (ended ls ++ rest) ++ more = cc in
    (lines (rest ++ more), ap lines (f ∙ append_assoc (ended ls) rest more) ∙ lines_of_ended ls (rest ++ more) a)

-- all of them
all_told : (left now : Option (List ℕ)) (bytes : List ℕ) (ls : List (List ℕ)) → Takes left now bytes → IsSpent now → lines bytes ≡ ls → length bytes ≤ most → AreAll left ls
all_told None now bytes ls e spent h short = tt
all_told (Some all) None bytes ls e spent h short = cc
all_told (Some all) (Some more) bytes ls e spent h short =
    let f : all ≡ bytes ++ more = cc in
    let k : all ≡ bytes = f ∙ ap (λ l. bytes ++ l) spent ∙ append-nil bytes in
    (ap lines k ∙ h, omega (arith, ap length k, short))

pub all_ended : (left now : Option (List ℕ)) (ls : List (List ℕ)) (rest : List ℕ) → Takes left now (ended ls ++ rest) → rest ≡ [] → AllByRecursion IsOpen ls → IsSpent now
    → length (ended ls ++ rest) ≤ most → AreAll left ls
all_ended left now ls rest e none a spent short =
    all_told left now (ended ls ++ rest) ls e spent (lines_of_ended ls rest a ∙ ap (λ l. ls ++ lines l) none ∙ append-nil ls) short

pub all_but_last : (left now : Option (List ℕ)) (ls : List (List ℕ)) (rest : List ℕ) → Takes left now (ended ls ++ rest) → rest ≢ [] → IsOpen rest → AllByRecursion IsOpen ls → IsSpent now
    → length (ended ls ++ rest) ≤ most → AreAll left (ls ++ rest ∷ [])
all_but_last left now ls rest e some o a spent short =
    all_told left now (ended ls ++ rest) (ls ++ rest ∷ []) e spent (lines_of_ended ls rest a ∙ ap (λ l. ls ++ l) (lines_open rest some o)) short

pub first_of_all : (left : Option (List ℕ)) (ls : List (List ℕ)) → AreAll left ls → AreFirst left ls
first_of_all None ls h = tt
first_of_all (Some all) ls h = ([], h.0 ∙ sym (append-nil ls))

-- ---- no document

pub no_document : (left : Option (List ℕ)) (first : List ℕ) → AreFirst left (first ∷ []) → (bound < length first) ⊎ ((d : Data) → IsJson first d → ⊥) → IfSome left HasNoDocument
no_document None first h why = tt
no_document (Some all) first h why = inr (first, h.0, h.1, why)

pub nothing_read : (left : Option (List ℕ)) → AreAll left [] → IfSome left HasNoDocument
nothing_read None h = tt
nothing_read (Some all) h = inl h.0

begun_with : (b : ℕ) (ls : List (List ℕ)) → (q : List ℕ) × (more : List (List ℕ)) × (begin_with b ls ≡ (b ∷ q) ∷ more)
begun_with b [] = ([], [], refl)
begun_with b (l ∷ ls) = (l, ls, refl)

-- the first line begins with the bytes before the first line feed
open_front : (b : ℕ) (p rest : List ℕ) → IsOpen (b ∷ p) → (q : List ℕ) × (more : List (List ℕ)) × (lines ((b ∷ p) ++ rest) ≡ ((b ∷ p) ++ q) ∷ more)
open_front b [] rest o =
    let w = begun_with b (lines rest) in
    (w.0, w.1, ap (λ t. if t then [] ∷ lines rest else begin_with b (lines rest)) o.0 ∙ w.2)
open_front b (c ∷ p) rest o =
    let w = open_front c p rest o.1 in
    (w.0, w.1, ap (λ t. if t then [] ∷ lines ((c ∷ p) ++ rest) else begin_with b (lines ((c ∷ p) ++ rest))) o.0 ∙ ap (begin_with b) w.2)

pub long_first : (all : List ℕ) (p rest : List ℕ) → all ≡ p ++ rest → IsOpen p → bound < length p → HasNoDocument all
long_first all [] rest e o h = absurd (omega (arith, h))
long_first all (b ∷ p) rest e o h =
    let w = open_front b p rest o in
    inr ((b ∷ p) ++ w.0, w.1, ap lines e ∙ w.2, inl (omega (arith, h, length-append (b ∷ p) w.0)))

pub too_long : (left now : Option (List ℕ)) (p : List ℕ) → Takes left now p → IsOpen p → bound < length p → IfSome left HasNoDocument
too_long None now p e o h = tt
too_long (Some all) None p e o h = cc
too_long (Some all) (Some more) p e o h = let f : all ≡ p ++ more = cc in long_first all p more f o h
