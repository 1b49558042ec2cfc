-- Values whose numbers are whole and fit 64 signed bits.
use Rattle.std.specs.Prelude.{◌≡◌, ◌↔◌, ℕ, zero, suc, ℤ, pos, neg_ℤ, int_le, List, [], ◌∷◌, Bool, true, false, ◌&&◌, Option, Some, None, option_map, if◌then◌else◌}
use Rattle.std.specs.List.{list_all}
use Rattle.serde_json.specs.Data.{Data}
use Rattle.serde_json.specs.Written.{has_float}
use Rattle.json_value.specs.Value.{Value, Items, Members, number, fraction, list, object, no_items, item, no_members, member}
use Rattle.json_value.specs.View.{value_of}
use Rattle.schema_defs.specs.Location.{Step, Location, place}
use Rattle.schema_tree.specs.Fault.{FaultD, value_number}

-- from -2^63 to 2^63 - 1
abbrev pub fits_i64 : ℤ → Bool
fits_i64 z = int_le (neg_ℤ (pos 9223372036854775808)) z && int_le z (pos 9223372036854775807)

-- each number in the value is such a one
abbrev mutual
  pub holds_i64_alone : Value → Bool
  holds_i64_alone (number z) = fits_i64 z
  holds_i64_alone fraction = false
  holds_i64_alone (list vs) = items_hold_i64_alone vs
  holds_i64_alone (object ms) = members_hold_i64_alone ms
  holds_i64_alone _ = true

  pub items_hold_i64_alone : Items → Bool
  items_hold_i64_alone no_items = true
  items_hold_i64_alone (item v vs) = holds_i64_alone v && items_hold_i64_alone vs

  pub members_hold_i64_alone : Members → Bool
  members_hold_i64_alone no_members = true
  members_hold_i64_alone (member k v ms) = holds_i64_alone v && members_hold_i64_alone ms

-- then no number is a float, so that the text of the value is known
abbrev pub I64AloneHasNoFloat : Type 0
I64AloneHasNoFloat = (d : Data) → holds_i64_alone (value_of d) ≡ true → has_float d ≡ false

-- ---- the first number that is no such one

abbrev pub below : Step → Option Location → Option Location
below k o = option_map (λ l. k ∷ l) o

abbrev pub first_of : Option Location → Option Location → Option Location
first_of None o = o
first_of (Some l) o = Some l

-- its place: of items the first, of members the first in their order
abbrev mutual
  pub wide_place : Value → Option Location
  wide_place (number z) = if fits_i64 z then None else Some []
  wide_place fraction = Some []
  wide_place (list vs) = wide_place_of_items 0 vs
  wide_place (object ms) = wide_place_of_members ms
  wide_place _ = None

  -- of items, the first of which stands at place i
  pub wide_place_of_items : ℕ → Items → Option Location
  wide_place_of_items i no_items = None
  wide_place_of_items i (item v vs) = first_of (below (place i) (wide_place v)) (wide_place_of_items (suc i) vs)

  pub wide_place_of_members : Members → Option Location
  wide_place_of_members no_members = None
  wide_place_of_members (member k v ms) = first_of (below k (wide_place v)) (wide_place_of_members ms)

-- there is one exactly where not all numbers are such ones
abbrev pub WidePlacesAreExact : Type 0
WidePlacesAreExact = (v : Value) → (wide_place v ≡ None) ↔ (holds_i64_alone v ≡ true)

-- ---- of several values

abbrev pub are_i64 : List Data → Bool
are_i64 ds = list_all (λ d. holds_i64_alone (value_of d)) ds

-- at that place of the value i, none of those before it has one
abbrev pub IsWideAt : ℕ → Location → List Data → Type 0
IsWideAt i l [] = ⊥
IsWideAt zero l (d ∷ ds) = wide_place (value_of d) ≡ Some l
IsWideAt (suc i) l (d ∷ ds) = (holds_i64_alone (value_of d) ≡ true) × IsWideAt i l ds

-- the fault tells the first
abbrev pub HasWideNumber : List Data → FaultD → Type 0
HasWideNumber ds (value_number i l) = IsWideAt i l ds
HasWideNumber ds _ = ⊥
