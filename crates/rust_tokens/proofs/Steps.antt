-- One token after the other, into groups.
use Rattle.std.proofs.Common.{◌≡◌, ◌≢◌, ◌≤◌, ℕ, List, [], ◌∷◌, ◌++◌, drop, length, Some, inl, inr, refl, ap, sym, subst, ◌∙◌, append_assoc, append-nil}
use Rattle.std.specs.Str.{skip_leading_whitespace}
use Rattle.token_trees.specs.declared.token.Span.{Span}
use Rattle.token_trees.specs.declared.token.Delimiter.{Delimiter}
use Rattle.token_trees.specs.declared.token.Delimiter.TheVariants.{None as hidden}
use Rattle.token_trees.specs.Token.{Tok, group, toks_of}
use Rattle.token_trees.specs.Text.{Piece, opens, closes, pieces, inner_pieces, pieces_of}
use Rattle.token_trees.proofs.Texts.{pieces_of_append, inner_pieces_of, enclosed_shown}
use Rattle.rust_tokens.specs.Front.{front}
use Rattle.rust_tokens.specs.Reading.{Reads, IsWritten, AreWritten, IsLexed}
use Rattle.rust_tokens.specs.Faults.{Seen, Sees, open_after, IsWrong, no_token, unopened, unclosed}
use Rattle.rust_tokens.specs.Groups.{Level, opened, innermost, first_left, AreOpen, IsFirst, HasRead, IsStuck, no_front, wrong_bracket, Closes, FaultLeft, Advances, Refuses, brackets, AreClosed, IsLeftAtFault, all_closed, one_unclosed}
use Rattle.rust_tokens.proofs.Readings.{left_past, reads_append, reads_split, reads_one, reads_same}
use Rattle.rust_tokens.proofs.Fronts.{opens_shown}
use Rattle.rust_tokens.proofs.Balance.{balance, balance_trees, balance_opened, brackets_some, brackets_top}
use Rattle.rust_tokens.proofs.Sights.{all_seen, reads_sees, compare_sights}
use Rattle.rust_tokens.proofs.Pairs.{Fits, fits_before, fits_over, some_open, open_after_append, balanced}
use Rattle.rust_tokens.proofs.Seeking.{closed_at_end}
use Rattle.rust_tokens.proofs.Exact.{none_closed, no_fault_before, no_fault_in_trees}

abbrev past : List ℕ → List ℕ
past = skip_leading_whitespace

abbrev lvl : Delimiter → List Tok → Level
lvl d ts = record { delimiter = d; before = ts }

written_append : (s : Span) (ts : List Tok) (t : Tok) → AreWritten s (toks_of ts) → IsWritten s t → AreWritten s (toks_of (ts ++ t ∷ []))
written_append s [] t h k = (k, tt)
written_append s (u ∷ us) t h k = (h.0, written_append s us t h.1 k)

opened_append : (ls : List Level) (l : Level) → opened (ls ++ l ∷ []) ≡ opened ls ++ (pieces_of l.before ++ opens l.delimiter ∷ [])
opened_append [] l = refl
opened_append (k ∷ ks) l =
    ap (λ xs. pieces_of k.before ++ opens k.delimiter ∷ xs) (opened_append ks l)
    ∙ sym (append_assoc (pieces_of k.before) (opens k.delimiter ∷ opened ks) (pieces_of l.before ++ opens l.delimiter ∷ []))

open_append : (s : Span) (ls : List Level) (l : Level) → AreOpen s ls → (l.delimiter ≢ hidden) → AreWritten s (toks_of l.before) → AreOpen s (ls ++ l ∷ [])
open_append s [] l h d w = (d, w, tt)
open_append s (k ∷ ks) l h d w = (h.0, h.1, open_append s ks l h.2 d w)

open_front : (s : Span) (ls : List Level) (l : Level) → AreOpen s (ls ++ l ∷ []) → AreOpen s ls
open_front s [] l h = tt
open_front s (k ∷ ks) l h = (h.0, h.1, open_front s ks l h.2)

open_last : (s : Span) (ls : List Level) (l : Level) → AreOpen s (ls ++ l ∷ []) → (l.delimiter ≢ hidden) × AreWritten s (toks_of l.before)
open_last s [] l h = (h.0, h.1)
open_last s (k ∷ ks) l h = open_last s ks l h.2

first_front : (cs : List ℕ) (ls : List Level) (l : Level) (n : ℕ) → IsFirst cs (ls ++ l ∷ []) n → IsFirst cs ls n
first_front cs [] l n h = tt
first_front cs (k ∷ ks) l n h = h

first_append : (cs : List ℕ) (ls : List Level) (l : Level) (first : ℕ) (rest : List ℕ) → IsFirst cs ls first → Reads cs (opened ls ++ pieces_of l.before) rest → IsFirst cs (ls ++ l ∷ []) (first_left ls first (length rest))
first_append cs [] l first rest h r = (rest, r, refl)
first_append cs (k ∷ ks) l first rest h r = h

-- nothing was read yet
pub at_start : (cs : List ℕ) (s : Span) (first : ℕ) → HasRead cs s [] [] first (past cs)
at_start cs s first = record { read = refl; open_groups = tt; written = tt; outermost = tt }

next_read : (cs : List ℕ) (xs : List Piece) (rest : List ℕ) (x : Piece) (n : ℕ) → Reads cs xs rest → front rest ≡ Some (x, n) → Reads cs (xs ++ x ∷ []) (past (drop n rest))
next_read cs xs rest x n h e = reads_append cs xs (x ∷ []) rest (past (drop n rest)) h (reads_one rest x n (left_past cs xs rest h) e)

-- a tree of one token
pub after_leaf : (s : Span) (ls : List Level) (ts : List Tok) (first : ℕ) (rest : List ℕ) (x : Piece) (n : ℕ) (t : Tok) → front rest ≡ Some (x, n) → pieces t ≡ x ∷ [] → IsWritten s t
    → (cs : List ℕ) → HasRead cs s ls ts first rest → HasRead cs s ls (ts ++ t ∷ []) first (past (drop n rest))
after_leaf s ls ts first rest x n t e p w cs h =
    let xs = opened ls ++ pieces_of ts in
    let P : List Piece → Type 0 = λ ys. Reads cs ys (past (drop n rest)) in
    let more : (opened ls ++ pieces_of ts) ++ x ∷ [] ≡ opened ls ++ pieces_of (ts ++ t ∷ []) =
    append_assoc (opened ls) (pieces_of ts) (x ∷ [])
    ∙ ap (λ ys. opened ls ++ (pieces_of ts ++ ys)) (sym (append-nil (pieces t) ∙ p))
    ∙ ap (λ ys. opened ls ++ ys) (sym (pieces_of_append ts (t ∷ []))) in
    record {
      read = subst P more (next_read cs xs rest x n h.read e);
      open_groups = h.open_groups;
      written = written_append s ts t h.written w;
      outermost = h.outermost;
    }

-- a group opens
pub after_open : (s : Span) (ls : List Level) (ts : List Tok) (first : ℕ) (rest : List ℕ) (d : Delimiter) (n : ℕ) → front rest ≡ Some (opens d, n) → (d ≢ hidden)
    → (cs : List ℕ) → HasRead cs s ls ts first rest → HasRead cs s (ls ++ lvl d ts ∷ []) [] (first_left ls first (length rest)) (past (drop n rest))
after_open s ls ts first rest d n e w cs h =
    let xs = opened ls ++ pieces_of ts in
    let P : List Piece → Type 0 = λ ys. Reads cs ys (past (drop n rest)) in
    let more : (opened ls ++ pieces_of ts) ++ opens d ∷ [] ≡ opened (ls ++ lvl d ts ∷ []) ++ [] =
    append_assoc (opened ls) (pieces_of ts) (opens d ∷ []) ∙ sym (opened_append ls (lvl d ts)) ∙ sym (append-nil (opened (ls ++ lvl d ts ∷ []))) in
    record {
      read = subst P more (next_read cs xs rest (opens d) n h.read e);
      open_groups = open_append s ls (lvl d ts) h.open_groups w h.written;
      written = tt;
      outermost = first_append cs ls (lvl d ts) first rest h.outermost h.read;
    }

closed_pieces : (s : Span) (ls : List Level) (d : Delimiter) (before ts : List Tok) → (d ≢ hidden)
    → (opened (ls ++ lvl d before ∷ []) ++ pieces_of ts) ++ closes d ∷ [] ≡ opened ls ++ pieces_of (before ++ group d (toks_of ts) s ∷ [])
closed_pieces s ls d before ts w =
    let inner : pieces (group d (toks_of ts) s) ≡ opens d ∷ (pieces_of ts ++ closes d ∷ []) =
    enclosed_shown d (inner_pieces (toks_of ts)) w ∙ ap (λ ys. opens d ∷ (ys ++ closes d ∷ [])) (inner_pieces_of ts) in
    ap (λ ys. (ys ++ pieces_of ts) ++ closes d ∷ []) (opened_append ls (lvl d before))
    ∙ append_assoc (opened ls ++ (pieces_of before ++ opens d ∷ [])) (pieces_of ts) (closes d ∷ [])
    ∙ append_assoc (opened ls) (pieces_of before ++ opens d ∷ []) (pieces_of ts ++ closes d ∷ [])
    ∙ ap (λ ys. opened ls ++ ys) (append_assoc (pieces_of before) (opens d ∷ []) (pieces_of ts ++ closes d ∷ []))
    ∙ ap (λ ys. opened ls ++ (pieces_of before ++ ys)) (sym (append-nil (pieces (group d (toks_of ts) s)) ∙ inner))
    ∙ ap (λ ys. opened ls ++ ys) (sym (pieces_of_append before (group d (toks_of ts) s ∷ [])))

-- a group closes
pub after_close : (s : Span) (ls : List Level) (ts : List Tok) (first : ℕ) (rest : List ℕ) (d : Delimiter) (n : ℕ) (ms : List Level) (us : List Tok) → front rest ≡ Some (closes d, n) → Closes d s ls ts ms us
    → (cs : List ℕ) → HasRead cs s ls ts first rest → HasRead cs s ms us first (past (drop n rest))
after_close s ls ts first rest d n ms us e k cs h =
    let L : List Level → Type 0 = AreOpen s in
    let both = open_last s ms (lvl d k.before) (subst L k.was h.open_groups) in
    let F : List Level → Type 0 = λ ks. IsFirst cs ks first in
    let P : List Piece → Type 0 = λ ys. Reads cs ys (past (drop n rest)) in
    let T : List Tok → Type 0 = λ vs. AreWritten s (toks_of vs) in
    let more : (opened ls ++ pieces_of ts) ++ closes d ∷ [] ≡ opened ms ++ pieces_of us =
    ap (λ ks. (opened ks ++ pieces_of ts) ++ closes d ∷ []) k.was
    ∙ closed_pieces s ms d k.before ts both.0
    ∙ ap (λ vs. opened ms ++ pieces_of vs) (sym k.now) in
    record {
      read = subst P more (next_read cs (opened ls ++ pieces_of ts) rest (closes d) n h.read e);
      open_groups = open_front s ms (lvl d k.before) (subst L k.was h.open_groups);
      written = subst T (sym k.now) (written_append s k.before (group d (toks_of ts) s) both.1 (both.0, refl, h.written));
      outermost = first_front cs ms (lvl d k.before) first (subst F k.was h.outermost);
    }

-- the whole text
pub at_end : (cs : List ℕ) (s : Span) (ts : List Tok) (first : ℕ) (rest : List ℕ) → rest ≡ [] → HasRead cs s [] ts first rest → IsLexed cs s ts
at_end cs s ts first rest e h =
    let P : List ℕ → Type 0 = λ r. Reads cs (pieces_of ts) r in
    record { read = subst P e h.read; written = h.written }

-- the brackets that are open after what was read
open_read : (ls : List Level) (ts : List Tok) (held : List Delimiter) → balance (opened ls ++ pieces_of ts) held ≡ Some (brackets ls held)
open_read ls ts held =
    balance_opened ls (pieces_of ts) held ∙ ap (λ ys. balance ys (brackets ls held)) (sym (append-nil (pieces_of ts))) ∙ balance_trees ts [] (brackets ls held)

seen_open : (ls : List Level) (ts : List Tok) (held : List Delimiter) → open_after (all_seen (opened ls ++ pieces_of ts)) held ≡ brackets ls held
seen_open ls ts held = (balanced (opened ls ++ pieces_of ts) held (brackets ls held) (open_read ls ts held)).leaves

-- what was read inside a group, and no further, leaves its bracket open
open_inside : (ks : List Level) (ts : List Tok) (d : Delimiter) (xs more : List Seen) → all_seen (opened ks ++ pieces_of ts) ≡ xs ++ more → open_after xs (d ∷ []) ≢ []
open_inside ks ts d xs more e h =
    let F : List Seen → Type 0 = λ ys. Fits ys [] in
    let fits = fits_before xs more [] (subst F e (balanced (opened ks ++ pieces_of ts) [] (brackets ks []) (open_read ks ts [])).fits) in
    some_open (open_after xs []) d [] (sym (fits_over xs [] (d ∷ []) fits) ∙ h)

-- nothing closes the bracket of a group, if not all that are open are closed
never_closed : (start : List ℕ) (l : Level) (ks : List Level) (ts : List Tok) (rest : List ℕ) → Reads start (opened ks ++ pieces_of ts) rest → (AreClosed (brackets (l ∷ ks) []) rest → ⊥)
    → (xs : List Seen) (after : List ℕ) → Sees start xs after → open_after xs (l.delimiter ∷ []) ≢ []
never_closed start l ks ts rest r unclosed_left xs after s h =
    elim (compare_sights start xs (all_seen (opened ks ++ pieces_of ts)) after rest s (reads_sees start (opened ks ++ pieces_of ts) rest r)) [
      | inl m ↦ open_inside ks ts l.delimiter xs m.more m.whole h
      | inr m ↦ unclosed_left (record {
        passed = m.more;
        after = after;
        sees = m.sees;
        none_open =
            ap (open_after m.more) (sym (seen_open ks ts (l.delimiter ∷ [])))
            ∙ sym (open_after_append (all_seen (opened ks ++ pieces_of ts)) m.more (l.delimiter ∷ []))
            ∙ ap (λ ys. open_after ys (l.delimiter ∷ [])) (sym m.whole) ∙ h;
      })
    ]

-- the first fault, where not all open groups are closed: the outermost
fault_open : (cs : List ℕ) (s : Span) (l : Level) (ks : List Level) (ts : List Tok) (first : ℕ) (rest : List ℕ) → HasRead cs s (l ∷ ks) ts first rest → (AreClosed (brackets (l ∷ ks) []) rest → ⊥) → FaultLeft cs first
fault_open cs s l ks ts first rest h left_open =
    let d = l.delimiter in
    let P : List Piece → Type 0 = λ ys. Reads cs ys rest in
    let whole : (pieces_of l.before ++ opens d ∷ opened ks) ++ pieces_of ts ≡ pieces_of l.before ++ (opens d ∷ (opened ks ++ pieces_of ts)) =
    append_assoc (pieces_of l.before) (opens d ∷ opened ks) (pieces_of ts) in
    let split = reads_split cs (pieces_of l.before) (opens d ∷ (opened ks ++ pieces_of ts)) rest (subst P whole h.read) in
    let at = split.0 in
    let skipped = left_past cs (pieces_of l.before) at split.1 in
    let n = split.2.0 in
    let begins : front at ≡ Some (opens d, n) = ap front (sym skipped) ∙ split.2.1 in
    let Q : List ℕ → Type 0 = λ q. Reads (drop n q) (opened ks ++ pieces_of ts) rest in
    let length_is : length at ≡ first = ap length (reads_same cs (pieces_of l.before) at h.outermost.0 split.1 h.outermost.1) ∙ h.outermost.2 in
    let L : ℕ → Type 0 = λ k. (xs : List Seen) (other : List ℕ) → Sees cs xs other → IsWrong (open_after xs []) other → length other ≤ k in
    record {
      before = all_seen (pieces_of l.before);
      rest = at;
      sees = reads_sees cs (pieces_of l.before) at split.1;
      wrong = unclosed d n begins (never_closed (drop n at) l ks ts rest (subst Q skipped split.2.2) left_open);
      length_is = length_is;
      least = subst L length_is (no_fault_in_trees cs l.before at split.1);
    }

stuck_wrong : (ls : List Level) (rest : List ℕ) → rest ≢ [] → IsStuck ls rest → IsWrong (brackets ls []) rest
stuck_wrong ls rest some (no_front e) = no_token some e
stuck_wrong ls rest some (wrong_bracket d n e w) = unopened d n e (λ outer k. w (brackets_top ls d outer k))

-- the first fault, where all open groups are closed later: here
fault_here : (cs : List ℕ) (s : Span) (ls : List Level) (ts : List Tok) (first : ℕ) (rest : List ℕ) → HasRead cs s ls ts first rest → IsStuck ls rest → rest ≢ [] → AreClosed (brackets ls []) rest → FaultLeft cs (length rest)
fault_here cs s ls ts first rest h stuck some all =
    let xs = opened ls ++ pieces_of ts in
    let W : List Delimiter → Type 0 = λ ds. IsWrong ds rest in
    record {
      before = all_seen xs;
      rest = rest;
      sees = reads_sees cs xs rest h.read;
      wrong = subst W (sym (seen_open ls ts [])) (stuck_wrong ls rest some stuck);
      length_is = refl;
      least = no_fault_before cs xs rest (brackets ls []) h.read (open_read ls ts []) all;
    }

outermost_fault : (cs : List ℕ) (s : Span) (ls : List Level) (ts : List Tok) (first : ℕ) (rest : List ℕ) → HasRead cs s ls ts first rest → (AreClosed (brackets ls []) rest → ⊥) → FaultLeft cs first
outermost_fault cs s [] ts first rest h left_open = absurd (left_open (none_closed rest))
outermost_fault cs s (l ∷ ks) ts first rest h left_open = fault_open cs s l ks ts first rest h left_open

-- where what follows doesn't fit
pub at_fault : (cs : List ℕ) (s : Span) (ls : List Level) (ts : List Tok) (first : ℕ) (rest : List ℕ) (left : ℕ) → HasRead cs s ls ts first rest → IsStuck ls rest → rest ≢ [] → IsLeftAtFault (brackets ls []) rest first left → FaultLeft cs left
at_fault cs s ls ts first rest left h stuck some (all_closed all e) = let P : ℕ → Type 0 = FaultLeft cs in subst P (sym e) (fault_here cs s ls ts first rest h stuck some all)
at_fault cs s ls ts first rest left h stuck some (one_unclosed left_open e) = let P : ℕ → Type 0 = FaultLeft cs in subst P (sym e) (outermost_fault cs s ls ts first rest h left_open)

-- where the text ends in a group
pub at_end_inside : (cs : List ℕ) (s : Span) (ls : List Level) (ts : List Tok) (first : ℕ) (rest : List ℕ) → rest ≡ [] → ls ≢ [] → HasRead cs s ls ts first rest → FaultLeft cs first
at_end_inside cs s [] ts first rest e some h = absurd (some refl)
at_end_inside cs s (l ∷ ks) ts first rest e some h =
    fault_open cs s l ks ts first rest h (λ c.
    let t = brackets_some l ks [] in
    let none = sym t.whole ∙ closed_at_end (brackets (l ∷ ks) []) rest e c in
    cc)

moved : (cs : List ℕ) (s : Span) (ls ms : List Level) (ts us : List Tok) (first next : ℕ) (rest : List ℕ) → HasRead cs s ls ts first rest → ms ≡ ls → us ≡ ts → next ≡ first → HasRead cs s ms us next rest
moved cs s ls ms ts us first next rest h l t f =
    let L : List Level → Type 0 = λ ks. HasRead cs s ks us next rest in
    let T : List Tok → Type 0 = λ vs. HasRead cs s ls vs next rest in
    let F : ℕ → Type 0 = λ n. HasRead cs s ls ts n rest in
    subst L (sym l) (subst T (sym t) (subst F (sym f) h))

-- what one token does to the groups
pub leaf_advances : (x : Piece) (left : ℕ) (s : Span) (ls : List Level) (ts : List Tok) (first : ℕ) (ms : List Level) (us : List Tok) (next : ℕ) (t : Tok)
    → pieces t ≡ x ∷ [] → IsWritten s t → ms ≡ ls → us ≡ ts ++ t ∷ [] → next ≡ first → Advances x left s ls ts first ms us next
leaf_advances x left s ls ts first ms us next t p w l u f rest n len e cs h =
    moved cs s ls ms (ts ++ t ∷ []) us first next (past (drop n rest)) (after_leaf s ls ts first rest x n t e p w cs h) l u f

pub open_advances : (x : Piece) (left : ℕ) (s : Span) (ls : List Level) (ts : List Tok) (first : ℕ) (ms : List Level) (us : List Tok) (next : ℕ) (d : Delimiter)
    → x ≡ opens d → ms ≡ ls ++ lvl d ts ∷ [] → us ≡ [] → next ≡ first_left ls first left → Advances x left s ls ts first ms us next
open_advances x left s ls ts first ms us next d k l u f rest n len e cs h =
    let begins = e ∙ ap (λ y. Some (y, n)) k in
    moved cs s (ls ++ lvl d ts ∷ []) ms [] us (first_left ls first (length rest)) next (past (drop n rest))
    (after_open s ls ts first rest d n begins (opens_shown rest d n begins) cs h) l u (f ∙ ap (first_left ls first) (sym len))

pub close_advances : (x : Piece) (left : ℕ) (s : Span) (ls : List Level) (ts : List Tok) (first : ℕ) (ms : List Level) (us : List Tok) (next : ℕ) (d : Delimiter)
    → x ≡ closes d → Closes d s ls ts ms us → next ≡ first → Advances x left s ls ts first ms us next
close_advances x left s ls ts first ms us next d k l f rest n len e cs h =
    moved cs s ms ms us us first next (past (drop n rest))
    (after_close s ls ts first rest d n ms us (e ∙ ap (λ y. Some (y, n)) k) l cs h) refl refl f

pub close_refuses : (x : Piece) (ls : List Level) (d : Delimiter) → x ≡ closes d → (innermost ls ≡ Some d → ⊥) → Refuses x ls
close_refuses x ls d k w rest n e = wrong_bracket d n (e ∙ ap (λ y. Some (y, n)) k) w
