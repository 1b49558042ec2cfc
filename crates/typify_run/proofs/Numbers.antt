-- Numbers that are i64 are numbers that JSON values have.
use Rattle.std.proofs.Common.{◌≡◌, ℕ, Bool, true, false, ◌&&◌, refl, ap, sym, ◌∙◌, true≢false, arith}
use Rattle.std.specs.Prelude.{ℤ, pos, negsuc, neg_ℤ, int_le, nat_lt}
use Rattle.std.proofs.lemmas.Int.{ints}
use Rattle.json_value.specs.Value as value
use Rattle.json_value.specs.Value.{Value, Items, Members, null, number, fraction, text, list, object, item, no_items, member, no_members}
use Rattle.schema_tree.specs.Numbers.{fits_i64, holds_i64_alone, items_hold_i64_alone, members_hold_i64_alone}
use Rattle.reading_defs.specs.Proper.{is_json_number, has_json_numbers, items_have_json_numbers, members_have_json_numbers}

pub left : (a b : Bool) → (a && b) ≡ true → a ≡ true
left true b h = refl
left false b h = h

pub right : (a b : Bool) → (a && b) ≡ true → b ≡ true
right true b h = h
right false b h = absurd (true≢false (sym h))

pub both : (a b : Bool) → a ≡ true → b ≡ true → (a && b) ≡ true
both a b h k = ap (λ c. c && b) h ∙ k

below : (n : ℕ) → int_le (pos n) (pos 9223372036854775807) ≡ true → nat_lt n 18446744073709551616 ≡ true
below n h = grind (arith, ints)

above : (n : ℕ) → int_le (neg_ℤ (pos 9223372036854775808)) (negsuc n) ≡ true → nat_lt n 9223372036854775808 ≡ true
above n h = grind (arith, ints)

json_number : (z : ℤ) → fits_i64 z ≡ true → is_json_number z ≡ true
json_number (pos n) h = below n (right (int_le (neg_ℤ (pos 9223372036854775808)) (pos n)) _ h)
json_number (negsuc n) h = above n (left _ (int_le (negsuc n) (pos 9223372036854775807)) h)

mutual
  pub json_numbers : (v : Value) → holds_i64_alone v ≡ true → has_json_numbers v ≡ true
  json_numbers null h = refl
  json_numbers (value.boolean b) h = refl
  json_numbers (number z) h = json_number z h
  json_numbers fraction h = h
  json_numbers (text s) h = refl
  json_numbers (list xs) h = items_numbers xs h
  json_numbers (object ms) h = members_numbers ms h

  items_numbers : (xs : Items) → items_hold_i64_alone xs ≡ true → items_have_json_numbers xs ≡ true
  items_numbers no_items h = refl
  items_numbers (item v vs) h = both _ _ (json_numbers v (left _ (items_hold_i64_alone vs) h)) (items_numbers vs (right (holds_i64_alone v) _ h))

  members_numbers : (ms : Members) → members_hold_i64_alone ms ≡ true → members_have_json_numbers ms ≡ true
  members_numbers no_members h = refl
  members_numbers (member k v ms) h = both _ _ (json_numbers v (left _ (members_hold_i64_alone ms) h)) (members_numbers ms (right (holds_i64_alone v) _ h))
