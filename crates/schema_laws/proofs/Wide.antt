-- At the place of a number that is no i64 such a number stands.
use Rattle.std.proofs.Common.{◌≡◌, ℕ, ℤ, suc, [], Option, Some, None, Bool, true, false, refl, ap, subst, ◌∙◌}
use Rattle.std.specs.Prelude.{option_and_then, if◌then◌else◌}
use Rattle.json_value.specs.Value as value
use Rattle.json_value.specs.Value.{Value, Items, Members, null, number, fraction, text, list, item, no_items, member, no_members}
use Rattle.schema_defs.specs.Location.{Step, Location, place}
use Rattle.schema_tree.specs.Numbers.{fits_i64, below, first_of, wide_place, wide_place_of_items, wide_place_of_members}
use Rattle.distinct_names.specs.Names.{NamesDiffer, NamesOfItemsDiffer, MembersDiffer}
use Rattle.schema_laws.specs.ValueAt.{part_at, value_at}
use Rattle.schema_laws.specs.WideNumbers.{IsWideThere, WideNumbersStand}
use Rattle.schema_laws.proofs.Options.{IfThere}
use Rattle.schema_laws.proofs.Stand.{Ends, first_item, later_items, Names, first_member, later_members}

abbrev Wide : Value → Option Location → Type 0
Wide v o = IfThere (IsWideThere v) o

by_fit : (z : ℤ) (b : Bool) → fits_i64 z ≡ b → Wide (number z) (if b then None else Some [])
by_fit z true e = tt
by_fit z false e = (number z, refl, e)

first_or_later : (k : Step) (v w : Value) → part_at k v ≡ Some w → (o r : Option Location) → Wide w o → Wide v r → Wide v (first_of (below k o) r)
first_or_later k v w e None r h g = g
first_or_later k v w e (Some l) r h g = (h.0, ap (λ o. option_and_then (value_at l) o) e ∙ h.1, h.2)

mutual
  wide : (v : Value) → NamesDiffer v → Wide v (wide_place v)
  wide null d = tt
  wide (value.boolean b) d = tt
  wide (number z) d = by_fit z (fits_i64 z) refl
  wide fraction d = (fraction, refl, tt)
  wide (text s) d = tt
  wide (list xs) d = wide_items xs d xs 0 (λ j h. refl)
  wide (value.object ms) d = wide_members ms d ms (λ n h. refl)

  wide_items : (vs : Items) → NamesOfItemsDiffer vs → (xs : Items) (i : ℕ) → Ends xs i vs → Wide (list xs) (wide_place_of_items i vs)
  wide_items no_items d xs i h = tt
  wide_items (item v vs) d xs i h =
      first_or_later (place i) (list xs) v (first_item xs i v vs h) (wide_place v) (wide_place_of_items (suc i) vs) (wide v d.0) (wide_items vs d.1 xs (suc i) (later_items xs i v vs h))

  wide_members : (ms : Members) → MembersDiffer ms → (all : Members) → Names all ms → Wide (value.object all) (wide_place_of_members ms)
  wide_members no_members d all h = tt
  wide_members (member n v ms) d all h =
      first_or_later n (value.object all) v (first_member all n v ms h) (wide_place v) (wide_place_of_members ms) (wide v d.1) (wide_members ms d.2 all (later_members all n v ms d.0 h))

pub wide_numbers_stand : WideNumbersStand
wide_numbers_stand v d l e = subst (Wide v) e (wide v d)
