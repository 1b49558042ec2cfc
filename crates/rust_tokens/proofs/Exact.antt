-- A text has either trees or faulty places.
use Rattle.std.proofs.Common.{◌≡◌, ◌≤◌, ℕ, List, [], ◌∷◌, ◌++◌, drop, length, Some, inl, inr, refl, ap, sym, subst, ◌∙◌, append-nil, arith}
use Rattle.std.specs.Str.{skip_leading_whitespace}
use Rattle.std.proofs.lemmas.List.{nil_from_length}
use Rattle.token_trees.specs.declared.token.Span.{Span}
use Rattle.token_trees.specs.declared.token.Delimiter.{Delimiter}
use Rattle.token_trees.specs.Token.{Tok}
use Rattle.token_trees.specs.Text.{Piece, opens, closes, pieces_of}
use Rattle.rust_tokens.specs.Front.{front}
use Rattle.rust_tokens.specs.Reading.{Reads, IsLexed}
use Rattle.rust_tokens.specs.Faults.{Seen, seen, beyond, Sees, open_after_one, open_after, IsWrong, no_token, unopened, unclosed, IsFaulty}
use Rattle.rust_tokens.specs.Groups.{AreClosed}
use Rattle.rust_tokens.proofs.Balance.{balance, balance_trees}
use Rattle.rust_tokens.proofs.Sights.{all_seen, reads_sees, sight_past, sees_append, sees_split, sees_shorter, compare_sights, seen_token, seen_none, beyond_token}
use Rattle.rust_tokens.proofs.Pairs.{FitsOne, Fits, fits_after, balanced, open_after_append, closing}

abbrev past : List ℕ → List ℕ
past = skip_leading_whitespace

-- no brackets are open
pub none_closed : (rest : List ℕ) → AreClosed [] rest
none_closed rest = record { passed = []; after = past rest; sees = refl; none_open = refl }

-- nothing is wrong at a token that fits, where the brackets that are open after it are closed
right_here : (held : List Delimiter) (here : List ℕ) (x : Seen) (xs : List Seen) (rest : List ℕ) → seen here ≡ x → Sees (beyond here) xs rest → FitsOne x held
    → AreClosed (open_after xs (open_after_one x held)) rest → IsWrong held here → ⊥
right_here held here x xs rest s r f c (no_token some none) =
    let F : Seen → Type 0 = λ y. FitsOne y held in
    subst F (sym s ∙ seen_none here none) f
right_here held here x xs rest s r f c (unopened d n e never) =
    let F : Seen → Type 0 = λ y. FitsOne y held in
    let k = subst F (sym s ∙ seen_token here (closes d) n e) f in
    never k.0 k.1
right_here held here x xs rest s r f c (unclosed d n e never) =
    let whole : open_after (xs ++ c.passed) (d ∷ held) ≡ [] =
    ap (λ y. open_after (xs ++ c.passed) (open_after_one y held)) (sym (seen_token here (opens d) n e) ∙ s)
    ∙ open_after_append xs c.passed (open_after_one x held) ∙ c.none_open in
    let k = closing (xs ++ c.passed) [] d held whole in
    let P : List Seen → Type 0 = λ ys. Sees (beyond here) ys c.after in
    let Q : List ℕ → Type 0 = λ ds. Sees ds (k.front ++ k.more) c.after in
    let split = sees_split (drop n here) k.front k.more c.after
    (subst Q (beyond_token here (opens d) n e) (subst P k.whole (sees_append (beyond here) xs c.passed rest c.after r c.sees))) in
    never k.front split.0 split.1 k.none_open

right_before : (here : List ℕ) (ys more : List Seen) (rest : List ℕ) → past here ≡ here → Sees here more rest → Fits (ys ++ more) []
    → AreClosed (open_after (ys ++ more) []) rest → IsWrong (open_after ys []) here → length here ≤ length rest
right_before here ys [] rest skipped r f c wrong = let e : length rest ≡ length here = ap length (r ∙ skipped) in omega arith
right_before here ys (x ∷ xs) rest skipped r f c wrong =
    let held = open_after ys [] in
    let P : List ℕ → Type 0 = λ ds. Sees (beyond ds) xs rest in
    let C : List Delimiter → Type 0 = λ ds. AreClosed ds rest in
    absurd (right_here held here x xs rest (ap seen (sym skipped) ∙ r.1) (subst P skipped r.2) (fits_after ys (x ∷ xs) [] f).0
    (subst C (open_after_append ys (x ∷ xs) []) c) wrong)

-- of tokens in balance, whose open brackets are closed later, none is at a faulty place
pub no_fault_before : (cs : List ℕ) (xs : List Piece) (rest : List ℕ) (held : List Delimiter) → Reads cs xs rest → balance xs [] ≡ Some held → AreClosed held rest
    → (ys : List Seen) (other : List ℕ) → Sees cs ys other → IsWrong (open_after ys []) other → length other ≤ length rest
no_fault_before cs xs rest held r h c ys other s wrong =
    let b = balanced xs [] held h in
    elim (compare_sights cs ys (all_seen xs) other rest s (reads_sees cs xs rest r)) [
      | inl l ↦
          let F : List Seen → Type 0 = λ zs. Fits zs [] in
          let C : List Seen → Type 0 = λ zs. AreClosed (open_after zs []) rest in
          let D : List Delimiter → Type 0 = λ ds. AreClosed ds rest in
          right_before other ys l.more rest (sight_past cs ys other s) l.sees (subst F l.whole b.fits) (subst C l.whole (subst D (sym b.leaves) c)) wrong
      | inr l ↦ sees_shorter rest l.more other l.sees
    ]

pub whole_balance : (ts : List Tok) → balance (pieces_of ts) [] ≡ Some []
whole_balance ts = ap (λ xs. balance xs []) (sym (append-nil (pieces_of ts))) ∙ balance_trees ts [] []

-- before whole trees end, no place is faulty
pub no_fault_in_trees : (cs : List ℕ) (ts : List Tok) (rest : List ℕ) → Reads cs (pieces_of ts) rest
    → (ys : List Seen) (other : List ℕ) → Sees cs ys other → IsWrong (open_after ys []) other → length other ≤ length rest
no_fault_in_trees cs ts rest r = no_fault_before cs (pieces_of ts) rest [] r (whole_balance ts) (none_closed rest)

none_at_end : (held : List Delimiter) (rest : List ℕ) → rest ≡ [] → IsWrong held rest → ⊥
none_at_end held rest e (no_token some none) = some e
none_at_end held rest e (unopened d n f never) = let bad = sym (ap front e) ∙ f in cc
none_at_end held rest e (unclosed d n f never) = let bad = sym (ap front e) ∙ f in cc

-- a text that has trees has no fault
pub lexed_has_no_fault : (cs : List ℕ) (s : Span) (ts : List Tok) (place : ℕ) → IsLexed cs s ts → IsFaulty cs place → ⊥
lexed_has_no_fault cs s ts place h f =
    let short : length f.rest ≤ 0 = no_fault_in_trees cs ts [] h.read f.before f.rest f.sees f.wrong in
    none_at_end (open_after f.before []) f.rest (nil_from_length f.rest (omega arith)) f.wrong
