-- The pieces of a text, by the place of its first separator.
use Rattle.std.proofs.Common.{◌≡◌, ℕ, suc, ◌+◌, ◌<◌, ◌≤◌, ◌==◌, List, [], ◌∷◌, Bool, true, false, cond, not, Some, None, Option, is_some, Bor, length, take, drop, nat_lt, refl, ap, sym, ◌∙◌, arith}
use Rattle.std.proofs.lemmas.Bool.Decides.{nat_tests}
use Rattle.std.proofs.lemmas.List.{drop-drop}
use Rattle.std.proofs.lemmas.List.Splits.{slice_split_first}
use Rattle.std.proofs.lemmas.List.Sums.{prefix_len-le-length}
use Rattle.std.specs.List.{position, position_or_len, slice_split, onto_first}
use Rattle.std.specs.Char.{is_ascii_digit}
use Rattle.std.specs.Option.{IfSome, IfNone}
use Rattle.schema_texts.specs.Several.{HasSeveral}
use Rattle.schema_defs.specs.Formats.{pieces, begin_piece, leading_digits}

same_onto : (b : ℕ) (ps : List (List ℕ)) → begin_piece b ps ≡ onto_first b ps
same_onto b [] = refl
same_onto b (p ∷ ps) = refl

same_pieces : (c : ℕ) (s : List ℕ) → pieces c s ≡ slice_split (λ b. b == c) s
same_pieces c [] = refl
same_pieces c (b ∷ bs) = rw (same_pieces c bs, same_onto b (slice_split (λ x. x == c) bs)) refl

-- what the answer of `position` says
none_by : (t : Bool) (n len : ℕ) → nat_lt n len ≡ t → None ≡ cond t (Some n) None → len ≤ n
none_by true n len e h = cc
none_by false n len e h = grind (arith, nat_tests)

none_place : (p : ℕ → Bool) (s : List ℕ) → None ≡ position p s → length s ≤ position_or_len p s
none_place p s h = none_by (nat_lt (position_or_len p s) (length s)) (position_or_len p s) (length s) refl h

some_by : (t : Bool) (n len i : ℕ) → nat_lt n len ≡ t → Some i ≡ cond t (Some n) None → (n ≡ i) × (n < len)
some_by true n len i e h = let same : n ≡ i = cc in (same, grind (arith, nat_tests))
some_by false n len i e h = cc

some_place : (p : ℕ → Bool) (s : List ℕ) (i : ℕ) → Some i ≡ position p s → (position_or_len p s ≡ i) × (position_or_len p s < length s)
some_place p s i h = some_by (nat_lt (position_or_len p s) (length s)) (position_or_len p s) (length s) i refl h

whole_by : (c b : ℕ) (bs : List ℕ) → (length bs ≤ position_or_len (λ x. x == c) bs → pieces c bs ≡ bs ∷ [])
    → (t : Bool) → (b == c) ≡ t → length (b ∷ bs) ≤ position_or_len (λ x. x == c) (b ∷ bs) → pieces c (b ∷ bs) ≡ (b ∷ bs) ∷ []
whole_by c b bs again true e h = absurd (omega (arith, rw e at h))
whole_by c b bs again false e h =
    let short : length bs ≤ position_or_len (λ x. x == c) bs = omega (arith, rw e at h) in
    rw (e, again short) refl

whole_of : (c : ℕ) (s : List ℕ) → length s ≤ position_or_len (λ x. x == c) s → pieces c s ≡ s ∷ []
whole_of c [] h = refl
whole_of c (b ∷ bs) h = whole_by c b bs (whole_of c bs) (b == c) refl h

-- where there is no separator, the text is the one piece
pub cut_whole : (c : ℕ) (s : List ℕ) → None ≡ position (λ b. b == c) s → pieces c s ≡ s ∷ []
cut_whole c s h = whole_of c s (none_place (λ b. b == c) s h)

-- the first piece ends at the first separator
pub cut_parts : (c : ℕ) (s : List ℕ) (i : ℕ) → Some i ≡ position (λ b. b == c) s → pieces c s ≡ take i s ∷ pieces c (drop 1 (drop i s))
cut_parts c s i h =
    let f = some_place (λ b. b == c) s i h in
    same_pieces c s ∙ slice_split_first (λ b. b == c) s 0 f.1
    ∙ ap (λ k. take k s ∷ slice_split (λ b. b == c) (drop (k + 1) s)) f.0
    ∙ ap (λ ps. take i s ∷ ps) (sym (ap (pieces c) (drop-drop 1 i s) ∙ same_pieces c (drop (i + 1) s)))

more_by : (c b : ℕ) (bs : List ℕ) → (p : List ℕ) × ((ps : List (List ℕ)) × (pieces c bs ≡ p ∷ ps))
    → (t : Bool) → (b == c) ≡ t → (p : List ℕ) × ((ps : List (List ℕ)) × (pieces c (b ∷ bs) ≡ p ∷ ps))
more_by c b bs m true e = ([], (pieces c bs, rw e refl))
more_by c b bs m false e = (b ∷ m.0, (m.1.0, rw (e, m.1.1) refl))

-- a text has a first piece
pub more_pieces : (c : ℕ) (s : List ℕ) → (p : List ℕ) × ((ps : List (List ℕ)) × (pieces c s ≡ p ∷ ps))
more_pieces c [] = ([], ([], refl))
more_pieces c (b ∷ bs) = more_by c b bs (more_pieces c bs) (b == c) refl

pub if_none : {X : Type 0} (r : Option X) (P : Type 0) → P → IfNone r P
if_none None P h = h
if_none (Some x) P h = tt

-- where there is a separator, there are several pieces
pub several_pieces : (c : ℕ) (s : List ℕ) (r : Option (Bor (List ℕ) × Bor (List ℕ))) → IfSome r (λ p. pieces c s ≡ p.0.now ∷ pieces c p.1.now)
    → is_some r ≡ true → HasSeveral (pieces c s)
several_pieces c s None e h = cc
several_pieces c s (Some p) e h =
    let m = more_pieces c p.1.now in
    record { first = p.0.now; second = m.0; others = m.1.0; whole = e ∙ ap (λ ps. p.0.now ∷ ps) m.1.1 }

pub one_piece : (c : ℕ) (s : List ℕ) (r : Option (Bor (List ℕ) × Bor (List ℕ))) → IfNone r (pieces c s ≡ s ∷ [])
    → is_some r ≡ false → pieces c s ≡ s ∷ []
one_piece c s None e h = e
one_piece c s (Some p) e h = cc

leading_by : (c : ℕ) (cs : List ℕ) → leading_digits cs ≡ position_or_len (λ b. not (is_ascii_digit b)) cs
    → (t : Bool) → is_ascii_digit c ≡ t → leading_digits (c ∷ cs) ≡ position_or_len (λ b. not (is_ascii_digit b)) (c ∷ cs)
leading_by c cs same true e = rw e (omega (arith, same))
leading_by c cs same false e = rw e refl

leading_place : (s : List ℕ) → leading_digits s ≡ position_or_len (λ b. not (is_ascii_digit b)) s
leading_place [] = refl
leading_place (c ∷ cs) = leading_by c cs (leading_place cs) (is_ascii_digit c) refl

pub digits_before : (s : List ℕ) (i : ℕ) → Some i ≡ position (λ b. not (is_ascii_digit b)) s → i ≡ leading_digits s
digits_before s i h = sym (leading_place s ∙ (some_place (λ b. not (is_ascii_digit b)) s i h).0)

pub digits_alone : (s : List ℕ) → None ≡ position (λ b. not (is_ascii_digit b)) s → length s ≡ leading_digits s
digits_alone s h =
    omega (arith, leading_place s, none_place (λ b. not (is_ascii_digit b)) s h, prefix_len-le-length (λ x. not (not (is_ascii_digit x))) s)
