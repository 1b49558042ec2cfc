-- How numbers that are whole are written in one way. A text's bytes are cut into segments: outside strings each longest
-- run of the characters of numbers is one, and every other byte is one (strings and numbers as in RFC 8259, 6 and 7).
-- Where a string has no end, it takes all that follows.
use Rattle.std.specs.Prelude.{ℕ, ◌==◌, ◌&&◌, ◌||◌, not, drop, Bool, true, false, List, [], ◌∷◌, length, bytes_eq, codes, if◌then◌else◌}
use Rattle.std.specs.List.{list_all, flat_map, before_first, position_or_len}
use Rattle.std.specs.Char.{is_ascii_digit}
use Rattle.whole_numbers.specs.declared.place.Place.{Place}
use Rattle.whole_numbers.specs.declared.place.Place.TheVariants.{Outside, Inside, Escaped}

-- ---- segments

-- where the next byte stands: a quote begins a string, and the next that no backslash escapes ends it
abbrev pub place_after : Place → ℕ → Place
place_after Outside b = if b == 34 then Inside else Outside
place_after Inside b = if b == 34 then Outside else if b == 92 then Escaped else Inside
place_after Escaped b = Inside

-- a digit, a sign, the point or the sign of an exponent
abbrev pub is_of_numbers : ℕ → Bool
is_of_numbers b = is_ascii_digit b || b == 43 || b == 45 || b == 46 || b == 101 || b == 69

-- outside strings these belong to runs
abbrev pub is_in_run : Place → ℕ → Bool
is_in_run Outside b = is_of_numbers b
is_in_run Inside b = false
is_in_run Escaped b = false

pub data Segment : Type 0 where
  run : List ℕ → Segment
  kept : ℕ → Segment

-- a byte before a run belongs to it
abbrev pub begin_run : ℕ → List Segment → List Segment
begin_run b (run bs ∷ segments) = run (b ∷ bs) ∷ segments
begin_run b (kept c ∷ segments) = run (b ∷ []) ∷ kept c ∷ segments
begin_run b [] = run (b ∷ []) ∷ []

-- the segments of bytes that begin outside strings, in one, or after a backslash in one
abbrev pub segments : Place → List ℕ → List Segment
segments p [] = []
segments Outside (b ∷ bs) =
    if is_of_numbers b then begin_run b (segments Outside bs)
    else kept b ∷ segments (place_after Outside b) bs
segments Inside (b ∷ bs) = kept b ∷ segments (place_after Inside b) bs
segments Escaped (b ∷ bs) = kept b ∷ segments (place_after Escaped b) bs

-- ---- runs

abbrev pub is_point : ℕ → Bool
is_point b = b == 46

abbrev pub without_minus : List ℕ → List ℕ
without_minus [] = []
without_minus (b ∷ bs) = if b == 45 then bs else b ∷ bs

-- decimal digits, without a zero before others
abbrev pub is_integer : List ℕ → Bool
is_integer [] = false
is_integer (d ∷ ds) = is_ascii_digit d && list_all is_ascii_digit ds && (not (d == 48) || length ds == 0)

-- what stands from the point on: nothing, or a point and zeros, of which there is one at least
abbrev pub is_zero_fraction : List ℕ → Bool
is_zero_fraction [] = true
is_zero_fraction (point ∷ zeros) = not (length zeros == 0) && list_all (λ b. b == 48) zeros

-- what stands before the point, and from it on
abbrev pub integer_part : List ℕ → List ℕ
integer_part bs = before_first is_point bs

abbrev pub fraction_part : List ℕ → List ℕ
fraction_part bs = drop (position_or_len is_point bs) bs

-- a number without exponent whose fraction, if it has one, is zeros
abbrev pub is_whole : List ℕ → Bool
is_whole bs = is_integer (without_minus (integer_part bs)) && is_zero_fraction (fraction_part bs)

abbrev pub without_minus_zero : List ℕ → List ℕ
without_minus_zero bs = if bytes_eq bs (codes "-0") then codes "0" else bs

-- such a number becomes its integer part, and -0 becomes 0; any other run stays
unfoldable pub whole_number : List ℕ → List ℕ
whole_number bs = if is_whole bs then without_minus_zero (integer_part bs) else bs

-- ---- the whole

abbrev pub written : Segment → List ℕ
written (run bs) = whole_number bs
written (kept b) = b ∷ []

-- the bytes with each run so rewritten
unfoldable pub whole : List ℕ → List ℕ
whole bytes = flat_map written (segments Outside bytes)
