-- Merging what holds no schema: types, formats, numbers, texts, listed values.
use Rattle.std.specs.Prelude.{ℕ, zero, suc, ◌*◌, ◌/◌, ◌%◌, ◌==◌, ◌&&◌, ◌||◌, not, min, max, ℤ, int_lt, int_le, nat_lt, nat_le, List, [], ◌∷◌, ◌++◌, filter, Bool, true, false, Option, Some, None, bytes_eq, codes, if◌then◌else◌}
use Rattle.std.specs.List.{list_any}
use Rattle.json_value.specs.Value.{Value, same}
use Rattle.schema_defs.specs.declared.InstanceType.{InstanceType}
use Rattle.schema_defs.specs.declared.InstanceType.TheVariants.{Null, Boolean, Object, Array, Number, Text, Integer}
use Rattle.schema_defs.specs.Schema.{Types, one_type, many_types, Numbers, Texts, Plain}
use Rattle.schema_defs.specs.Layer.{is_listed}
use Rattle.enum_defs.specs.Words.{same_type}
use Rattle.merge_defs.specs.Outcome.{Outcome, answer, never, never_unless, less_than, more_than, of_formats, of_clash, of_integer, either, noted, note_if}
use Rattle.merge_defs.specs.Alike.{same_numbers, same_texts}

-- ---- types

abbrev pub names_type : List InstanceType → InstanceType → Bool
names_type ks k = list_any (same_type k) ks

abbrev pub all_types : List InstanceType
all_types = Null ∷ Boolean ∷ Object ∷ Array ∷ Number ∷ Text ∷ Integer ∷ []

-- one of them as a single name, none as never
abbrev pub some_types : List InstanceType → Outcome (Option Types)
some_types [] = never []
some_types (k ∷ []) = answer [] (Some (one_type k))
some_types ks = answer [] (Some (many_types ks))

abbrev pub one_if_named : Bool → InstanceType → Outcome (Option Types)
one_if_named b k = if b then answer [] (Some (one_type k)) else never []

abbrev pub two_types : Types → Types → Outcome (Option Types)
two_types (one_type k) (one_type l) = one_if_named (same_type k l) k
two_types (one_type k) (many_types ls) = one_if_named (names_type ls k) k
two_types (many_types ks) (one_type l) = one_if_named (names_type ks l) l
two_types (many_types ks) (many_types ls) = some_types (filter (λ k. names_type ks k && names_type ls k) all_types)

-- whether the merged type is this name alone
abbrev pub is_only : InstanceType → Option Types → Bool
is_only k (Some (one_type l)) = same_type k l
is_only k _ = false

-- ---- formats

abbrev pub is_ip : List ℕ → Bool
is_ip f = bytes_eq f (codes "ip")

abbrev pub is_ip_of_one_kind : List ℕ → Bool
is_ip_of_one_kind f = bytes_eq f (codes "ipv4") || bytes_eq f (codes "ipv6")

abbrev pub two_formats : List ℕ → List ℕ → Outcome (Option (List ℕ))
two_formats f g =
    if bytes_eq f g then answer [] (Some f)
    else if is_ip f && is_ip_of_one_kind g then answer [] (Some g)
    else if is_ip g && is_ip_of_one_kind f then answer [] (Some f)
    else never (less_than of_formats ∷ [])

-- ---- numbers

-- the greatest common divisor, by Euclid's steps
abbrev pub gcd_within : ℕ → ℕ → ℕ → ℕ
gcd_within zero a b = a
gcd_within (suc n) a b = elim (b == 0) [ true ↦ a | false ↦ gcd_within n b (a % b) ]

abbrev pub lcm : ℕ → ℕ → ℕ
lcm a b = (a / gcd_within (suc b) a b) * b

abbrev pub greatest_u64 : ℕ
greatest_u64 = 18446744073709551615

abbrev pub least_int : ℤ → ℤ → ℤ
least_int a b = if int_le a b then a else b

abbrev pub greatest_int : ℤ → ℤ → ℤ
greatest_int a b = if int_le a b then b else a

pub data Bound : Type 0 where
  unbounded : Bound
  inclusive : ℤ → Bound
  exclusive : ℤ → Bound

-- of an inclusive and an exclusive bound the tighter, the exclusive one at a tie
abbrev pub upper_bound : Option ℤ → Option ℤ → Bound
upper_bound None None = unbounded
upper_bound (Some i) None = inclusive i
upper_bound None (Some e) = exclusive e
upper_bound (Some i) (Some e) = if int_le e i then exclusive e else inclusive i

abbrev pub lower_bound : Option ℤ → Option ℤ → Bound
lower_bound None None = unbounded
lower_bound (Some i) None = inclusive i
lower_bound None (Some e) = exclusive e
lower_bound (Some i) (Some e) = if int_le i e then exclusive e else inclusive i

abbrev pub if_inclusive : Bound → Option ℤ
if_inclusive (inclusive z) = Some z
if_inclusive _ = None

abbrev pub if_exclusive : Bound → Option ℤ
if_exclusive (exclusive z) = Some z
if_exclusive _ = None

-- the lower bound first
abbrev pub bounds_cross : Bound → Bound → Bool
bounds_cross unbounded b = false
bounds_cross b unbounded = false
bounds_cross (inclusive l) (inclusive u) = int_lt u l
bounds_cross (inclusive l) (exclusive u) = int_le u l
bounds_cross (exclusive l) (inclusive u) = int_le u l
bounds_cross (exclusive l) (exclusive u) = int_le u l

-- what stands of the two multiples: past 64 bits none
abbrev pub small_multiple : Option ℕ → Option ℕ
small_multiple None = None
small_multiple (Some m) = if nat_le m greatest_u64 then Some m else None

abbrev pub is_wide : Option ℕ → Bool
is_wide None = false
is_wide (Some m) = not (nat_le m greatest_u64)

-- the part is there where one of its keywords is
abbrev pub numbers_of : Option ℕ → Bound → Bound → Option Numbers
numbers_of None unbounded unbounded = None
numbers_of m low high = Some (record { multiple_of = m; maximum = if_inclusive high; exclusive_maximum = if_exclusive high; minimum = if_inclusive low; exclusive_minimum = if_exclusive low })

abbrev pub bounded : Bool → Option ℕ → Bound → Bound → Outcome (Option Numbers)
bounded whole m low high = if bounds_cross low high then never_unless whole of_clash else answer [] (numbers_of m low high)

-- `whole` says that the merged type is integer
abbrev pub two_numbers : Bool → Numbers → Numbers → Outcome (Option Numbers)
two_numbers whole x y =
    if same_numbers x y then answer [] (Some x)
    else noted
    (note_if (is_wide (either lcm x.multiple_of y.multiple_of)) (more_than of_integer ∷ []))
    (bounded whole (small_multiple (either lcm x.multiple_of y.multiple_of))
    (lower_bound (either greatest_int x.minimum y.minimum) (either greatest_int x.exclusive_minimum y.exclusive_minimum))
    (upper_bound (either least_int x.maximum y.maximum) (either least_int x.exclusive_maximum y.exclusive_maximum)))

-- ---- texts

-- least, then greatest
abbrev pub sizes_cross : Option ℕ → Option ℕ → Bool
sizes_cross (Some m) (Some n) = nat_lt n m
sizes_cross _ _ = false

-- each once, where it stands first
abbrev pub each_once : List (List ℕ) → List (List ℕ)
each_once [] = []
each_once (p ∷ ps) = p ∷ filter (λ q. not (bytes_eq p q)) (each_once ps)

abbrev pub joined_texts : Texts → Texts → Texts
joined_texts x y =
    record { max_length = either min x.max_length y.max_length; min_length = either max x.min_length y.min_length; patterns = each_once (x.patterns ++ y.patterns) }

-- `whole` says that the merged type is string
abbrev pub two_texts : Bool → Texts → Texts → Outcome (Option Texts)
two_texts whole x y =
    if same_texts x y then answer [] (Some x)
    else if sizes_cross (joined_texts x y).min_length (joined_texts x y).max_length then never_unless whole of_clash
    else answer [] (Some (joined_texts x y))

-- ---- listed values

-- a constant is a list of one; beside `enum` it leaves the listed values that equal it
abbrev pub listed_values : Option (List Value) → Option Value → Option (List Value)
listed_values None None = None
listed_values (Some vs) None = Some vs
listed_values None (Some c) = Some (c ∷ [])
listed_values (Some vs) (Some c) = Some (filter (same c) vs)

abbrev pub values_of : Plain → Option (List Value)
values_of p = listed_values p.enum_values p.const_value

abbrev pub some_values : List Value → Outcome (Option (List Value))
some_values [] = never []
some_values vs = answer [] (Some vs)

abbrev pub two_lists : List Value → List Value → Outcome (Option (List Value))
two_lists vs ws = some_values (filter (λ v. is_listed v ws) vs)
