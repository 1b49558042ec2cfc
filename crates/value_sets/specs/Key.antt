-- A number for a value. What comes first counts most, as with the Fowler-Noll-Vo hash, of which it has the prime.
use Rattle.std.specs.Prelude.{ℕ, ◌+◌, ◌*◌, ◌%◌, ◌^◌, List, [], ◌∷◌, true, false, unsigned_abs, nat_lt, if◌then◌else◌}
use Rattle.json_value.specs.Value.{Value, Items, Members, null, boolean, number, fraction, text, list, object, no_items, item, no_members, member}

abbrev pub joined : ℕ → ℕ → ℕ
joined before next = ((before * 1099511628211) % 2 ^ 64 + next) % 2 ^ 64

abbrev pub text_key : ℕ → List ℕ → ℕ
text_key before [] = before
text_key before (b ∷ bs) = text_key (joined before b) bs

-- a size, as far as it goes into 64 bits
abbrev pub size_below : ℕ → ℕ
size_below n = if nat_lt n (2 ^ 64) then n else 0

abbrev mutual
  pub key_with : ℕ → Value → ℕ
  key_with before null = joined before 2
  key_with before (boolean true) = joined before 3
  key_with before (boolean false) = joined before 4
  key_with before (number z) = joined before (size_below (unsigned_abs z))
  key_with before fraction = joined before 1
  key_with before (text s) = text_key (joined before 5) s
  key_with before (list vs) = item_key (joined before 6) vs
  key_with before (object ms) = member_key (joined before 7) ms

  pub item_key : ℕ → Items → ℕ
  item_key before no_items = before
  item_key before (item v vs) = item_key (key_with before v) vs

  pub member_key : ℕ → Members → ℕ
  member_key before no_members = before
  member_key before (member k v ms) = member_key (key_with (text_key before k) v) ms
