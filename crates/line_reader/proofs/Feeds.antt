-- Bytes without a line feed, and the place of the first one.
use Rattle.std.proofs.Common.{◌≡◌, ◌<◌, ◌≤◌, ◌+◌, ℕ, zero, suc, List, [], ◌∷◌, ◌++◌, Bool, true, false, length, take, drop, get_or, refl, ap, sym, ◌∙◌, arith, take-append-drop}
use Rattle.std.proofs.lemmas.Bool.{eqb-true}
use Rattle.std.specs.Prelude.{nat_eq, slice_index, Option, Some, None, MatchOption}
use Rattle.std.proofs.Math.Seq.{drop-cons}
use Rattle.memchr.specs.Find.{IsFirstByte, is_byte}
use Rattle.line_reader.specs.Lines.{feed, IsOpen}
use Rattle.line_reader.specs.Feed.{IsFirstFeed}

false_of : (b : Bool) → ¬ (b ≡ true) → b ≡ false
false_of true h = absurd (h refl)
false_of false h = refl

pub open_nowhere : (bs : List ℕ) → ((k : ℕ) → k < length bs → ¬ (nat_eq (slice_index bs k) feed ≡ true)) → IsOpen bs
open_nowhere [] none = tt
open_nowhere (b ∷ bs) none = (false_of (nat_eq b feed) (none zero (omega arith)), open_nowhere bs (λ k h. none (suc k) (omega arith)))

pub open_before : (bs : List ℕ) (n : ℕ) → ((k : ℕ) → k < n → ¬ (nat_eq (slice_index bs k) feed ≡ true)) → IsOpen (take n bs)
open_before bs zero none = tt
open_before [] (suc n) none = tt
open_before (b ∷ bs) (suc n) none = (false_of (nat_eq b feed) (none zero (omega arith)), open_before bs n (λ k h. none (suc k) (omega arith)))

parted : (bs : List ℕ) (n : ℕ) → n < length bs → slice_index bs n ≡ feed → bs ≡ take n bs ++ feed ∷ drop (n + 1) bs
parted bs n h e =
    let one_more : suc n ≡ n + 1 = omega arith in
    sym (take-append-drop n bs) ∙ ap (λ l. take n bs ++ l) (drop-cons bs n 0 h ∙ ap (λ x. x ∷ drop (suc n) bs) e ∙ ap (λ m. feed ∷ drop m bs) one_more)

pub first_feed_is : (bs : List ℕ) (r : Option ℕ) → IsFirstByte (is_byte feed) bs r → MatchOption r (IsOpen bs) (λ n. IsFirstFeed bs n)
first_feed_is bs None none = open_nowhere bs (λ k h. none k (omega arith) h)
first_feed_is bs (Some n) found = record {
  within = found.0.high;
  before = open_before bs n (λ k h. found.0.before k (omega arith) h);
  parts = parted bs n found.0.high (eqb-true (slice_index bs n) feed found.1);
}

pub open_append : (l m : List ℕ) → IsOpen l → IsOpen m → IsOpen (l ++ m)
open_append [] m a b = b
open_append (x ∷ l) m a b = (a.0, open_append l m a.1 b)
