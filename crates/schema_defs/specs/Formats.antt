-- The six formats of texts, each as a test (RFC 4122 and the forms that crate uuid parses; RFC 3339 in a narrower profile; RFC 4291, 2.2).
use Rattle.std.specs.Prelude.{ℕ, suc, ◌+◌, ◌*◌, ◌-◌, ◌%◌, ◌==◌, ◌&&◌, ◌||◌, not, nat_eq, nat_le, List, [], ◌∷◌, length, drop, take, Bool, false, Option, Some, None, option_map, bytes_eq, codes, if◌then◌else◌}
use Rattle.std.specs.List.{list_all, starts_with}
use Rattle.std.specs.Char.{is_ascii_digit, is_ascii_hexdigit}
use Rattle.std.specs.Str.{str_eq_ignore_ascii_case}
use Rattle.schema_defs.specs.declared.Format.{Format}
use Rattle.schema_defs.specs.declared.Format.TheVariants.{Uuid, Date, DateTime, Ip, Ipv4, Ipv6}

-- ---- parts of a text

-- the text in pieces at each c
abbrev pub begin_piece : ℕ → List (List ℕ) → List (List ℕ)
begin_piece b [] = (b ∷ []) ∷ []
begin_piece b (p ∷ ps) = (b ∷ p) ∷ ps

abbrev pub pieces : ℕ → List ℕ → List (List ℕ)
pieces c [] = [] ∷ []
pieces c (b ∷ bs) = if b == c then [] ∷ pieces c bs else begin_piece b (pieces c bs)

abbrev pub all_digits : ℕ → List ℕ → Bool
all_digits n s = length s == n && list_all is_ascii_digit s

abbrev pub number_after : ℕ → List ℕ → ℕ
number_after n [] = n
number_after n (c ∷ cs) = number_after (n * 10 + (c - 48)) cs

-- the number that decimal digits write
abbrev pub number_of : List ℕ → ℕ
number_of = number_after 0

-- n digits whose number is at most m
abbrev pub digits_to : ℕ → ℕ → List ℕ → Bool
digits_to n m s = all_digits n s && nat_le (number_of s) m

-- ---- uuid

abbrev pub all_hex : ℕ → List ℕ → Bool
all_hex n s = length s == n && list_all is_ascii_hexdigit s

abbrev pub are_uuid_groups : List (List ℕ) → Bool
are_uuid_groups (a ∷ b ∷ c ∷ d ∷ e ∷ []) = all_hex 8 a && all_hex 4 b && all_hex 4 c && all_hex 4 d && all_hex 12 e
are_uuid_groups _ = false

-- 8, 4, 4, 4 and 12 digits of sixteen between hyphens
abbrev pub is_hyphenated : List ℕ → Bool
is_hyphenated s = are_uuid_groups (pieces 45 s)

-- the hyphenated form, the same without hyphens, in braces, or after `urn:uuid:` in either case
abbrev pub is_braced : List ℕ → Bool
is_braced s = starts_with nat_eq s (123 ∷ []) && bytes_eq (drop 37 s) (125 ∷ []) && is_hyphenated (take 36 (drop 1 s))

abbrev pub is_urn : List ℕ → Bool
is_urn s = str_eq_ignore_ascii_case (take 9 s) (codes "urn:uuid:") && is_hyphenated (drop 9 s)

unfoldable pub is_uuid : List ℕ → Bool
is_uuid s = is_hyphenated s || all_hex 32 s || is_braced s || is_urn s

-- ---- date and date-time

abbrev pub is_leap_year : ℕ → Bool
is_leap_year y = y % 4 == 0 && (not (y % 100 == 0) || y % 400 == 0)

abbrev pub days_in_month : ℕ → ℕ → ℕ
days_in_month y m =
    if m == 2 then (if is_leap_year y then 29 else 28)
    else if m == 4 || m == 6 || m == 9 || m == 11 then 30
    else 31

abbrev pub is_day : ℕ → ℕ → ℕ → Bool
is_day y m d = nat_le 1 m && nat_le m 12 && nat_le 1 d && nat_le d (days_in_month y m)

abbrev pub are_date_parts : List (List ℕ) → Bool
are_date_parts (y ∷ m ∷ d ∷ []) = all_digits 4 y && all_digits 2 m && all_digits 2 d && is_day (number_of y) (number_of m) (number_of d)
are_date_parts _ = false

-- `dddd-dd-dd`, a day of the Gregorian calendar
unfoldable pub is_date : List ℕ → Bool
is_date s = are_date_parts (pieces 45 s)

abbrev pub are_clock_parts : List (List ℕ) → Bool
are_clock_parts (h ∷ m ∷ s ∷ []) = digits_to 2 23 h && digits_to 2 59 m && digits_to 2 59 s
are_clock_parts _ = false

abbrev pub are_offset_parts : List (List ℕ) → Bool
are_offset_parts (h ∷ m ∷ []) = digits_to 2 23 h && digits_to 2 59 m
are_offset_parts _ = false

-- `Z`, or a sign and `hh:mm`
abbrev pub is_zone : List ℕ → Bool
is_zone [] = false
is_zone (c ∷ cs) = (c == 90 && length cs == 0) || ((c == 43 || c == 45) && are_offset_parts (pieces 58 cs))

abbrev pub leading_digits : List ℕ → ℕ
leading_digits [] = 0
leading_digits (c ∷ cs) = if is_ascii_digit c then suc (leading_digits cs) else 0

-- after the seconds: a point and one to nine digits may stand, then the zone
abbrev pub is_fraction_and_zone : List ℕ → Bool
is_fraction_and_zone s =
    if starts_with nat_eq s (46 ∷ [])
    then nat_le 1 (leading_digits (drop 1 s)) && nat_le (leading_digits (drop 1 s)) 9 && is_zone (drop (1 + leading_digits (drop 1 s)) s)
    else is_zone s

-- a date, `T`, `hh:mm:ss`, and what is after the seconds
unfoldable pub is_date_time : List ℕ → Bool
is_date_time s =
    is_date (take 10 s) && bytes_eq (take 1 (drop 10 s)) (84 ∷ []) && are_clock_parts (pieces 58 (take 8 (drop 11 s))) && is_fraction_and_zone (drop 19 s)

-- ---- addresses

-- a number to 255 without a leading zero
abbrev pub is_octet : List ℕ → Bool
is_octet s = digits_to 1 9 s || ((digits_to 2 99 s || digits_to 3 255 s) && not (starts_with nat_eq s (48 ∷ [])))

abbrev pub are_octets : List (List ℕ) → Bool
are_octets (a ∷ b ∷ c ∷ d ∷ []) = is_octet a && is_octet b && is_octet c && is_octet d
are_octets _ = false

unfoldable pub is_ipv4 : List ℕ → Bool
is_ipv4 s = are_octets (pieces 46 s)

-- one to four digits of sixteen
abbrev pub is_group : List ℕ → Bool
is_group s = nat_le 1 (length s) && nat_le (length s) 4 && list_all is_ascii_hexdigit s

-- how many groups the pieces between colons make, where the last may be an ipv4 text, which makes two
abbrev pub group_count : List (List ℕ) → Option ℕ
group_count [] = None
group_count (p ∷ []) = if is_group p then Some 1 else (if is_ipv4 p then Some 2 else None)
group_count (p ∷ q ∷ ps) = if is_group p then option_map suc (group_count (q ∷ ps)) else None

-- the text before the first `::`, and the text after it
abbrev pub around_double : List ℕ → Option (List ℕ × List ℕ)
around_double [] = None
around_double (b ∷ bs) =
    if starts_with nat_eq (b ∷ bs) (58 ∷ 58 ∷ []) then Some ([], drop 1 bs)
    else option_map (λ p. (b ∷ p.0, p.1)) (around_double bs)

-- before a `::` stand groups alone, and after it there may be none too
abbrev pub groups_before : List ℕ → Option ℕ
groups_before [] = Some 0
groups_before (b ∷ bs) = if list_all is_group (pieces 58 (b ∷ bs)) then Some (length (pieces 58 (b ∷ bs))) else None

abbrev pub groups_after : List ℕ → Option ℕ
groups_after [] = Some 0
groups_after (b ∷ bs) = group_count (pieces 58 (b ∷ bs))

-- a `::` stands for one or more groups of the eight
abbrev pub leave_room : Option ℕ → Option ℕ → Bool
leave_room (Some n) (Some m) = nat_le (n + m) 7
leave_room _ _ = false

abbrev pub are_eight : Option ℕ → Bool
are_eight (Some n) = n == 8
are_eight None = false

unfoldable pub is_ipv6 : List ℕ → Bool
is_ipv6 s = elim (around_double s) [ Some p ↦ leave_room (groups_before p.0) (groups_after p.1) | None ↦ are_eight (group_count (pieces 58 s)) ]

-- ---- what each format asks

abbrev pub has_format : Format → List ℕ → Bool
has_format Uuid s = is_uuid s
has_format Date s = is_date s
has_format DateTime s = is_date_time s
has_format Ip s = is_ipv4 s || is_ipv6 s
has_format Ipv4 s = is_ipv4 s
has_format Ipv6 s = is_ipv6 s
