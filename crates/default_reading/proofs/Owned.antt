-- The parts of values: they are smaller, and what comes of them is what comes of lists of readers.
use Rattle.std.proofs.Common.{◌≡◌, ℕ, ◌+◌, ◌<◌, List, Bool, true, false, cond, bytes_eq, Option, Some, None, option_map, refl, sym, ap, arith}
use Rattle.serde_json.specs.Data as data'
use Rattle.serde_json.specs.Data.{Data, unsigned, negative, float}
use Rattle.serde_json.specs.Find as find
use Rattle.serde_json.specs.Find.{as_str, as_array}
use Rattle.json_value.specs.Value as value
use Rattle.json_value.specs.Value.{Value, null, number, fraction, text, list, object, Items, no_items, item, Members, no_members, member, member_at, value_size, items_size, members_size}
use Rattle.json_value.specs.View.{value_of, items_of, members_of}
use Rattle.default_reading.specs.Steps.{as_list, as_object, as_text, given_at, is_passed, only_of}

pub list_seen : (d : Data) → option_map items_of (as_array d) ≡ as_list (value_of d)
list_seen data'.null = refl
list_seen (data'.boolean b) = refl
list_seen (data'.number (unsigned n)) = refl
list_seen (data'.number (negative z)) = refl
list_seen (data'.number (float x)) = refl
list_seen (data'.string s) = refl
list_seen (data'.array ds) = refl
list_seen (data'.object ms) = refl

pub object_seen : (d : Data) → option_map members_of (find.as_object d) ≡ as_object (value_of d)
object_seen data'.null = refl
object_seen (data'.boolean b) = refl
object_seen (data'.number (unsigned n)) = refl
object_seen (data'.number (negative z)) = refl
object_seen (data'.number (float x)) = refl
object_seen (data'.string s) = refl
object_seen (data'.array ds) = refl
object_seen (data'.object ms) = refl

pub text_seen : (d : Data) → as_str d ≡ as_text (value_of d)
text_seen data'.null = refl
text_seen (data'.boolean b) = refl
text_seen (data'.number (unsigned n)) = refl
text_seen (data'.number (negative z)) = refl
text_seen (data'.number (float x)) = refl
text_seen (data'.string s) = refl
text_seen (data'.array ds) = refl
text_seen (data'.object ms) = refl

-- what a list or an object holds is smaller
pub list_smaller : (v : Value) (xs : Items) → as_list v ≡ Some xs → items_size xs < value_size v
list_smaller null xs e = absurd (cc)
list_smaller (value.boolean b) xs e = absurd (cc)
list_smaller (number z) xs e = absurd (cc)
list_smaller fraction xs e = absurd (cc)
list_smaller (text n) xs e = absurd (cc)
list_smaller (list ys) xs e = let h : items_size ys ≡ items_size xs = ap items_in e in omega (arith, h)
  where
    items_in : Option Items → ℕ
    items_in None = 0
    items_in (Some zs) = items_size zs
list_smaller (object ms) xs e = absurd (cc)

pub object_smaller : (v : Value) (ms : Members) → as_object v ≡ Some ms → members_size ms < value_size v
object_smaller null ms e = absurd (cc)
object_smaller (value.boolean b) ms e = absurd (cc)
object_smaller (number z) ms e = absurd (cc)
object_smaller fraction ms e = absurd (cc)
object_smaller (text n) ms e = absurd (cc)
object_smaller (list ys) ms e = absurd (cc)
object_smaller (object ns) ms e = let h : members_size ns ≡ members_size ms = ap members_in e in omega (arith, h)
  where
    members_in : Option Members → ℕ
    members_in None = 0
    members_in (Some zs) = members_size zs

-- of a value of that name
found_cond : (b : Bool) (v : Value) (o : Option Value) (w : Value) (n : ℕ) → ((w : Value) → o ≡ Some w → value_size w < n) → cond b (Some v) o ≡ Some w → value_size w < 1 + value_size v + n
found_cond true v o w n k e = let h : value_size v ≡ value_size w = ap size_of e in omega (arith, h)
  where
    size_of : Option Value → ℕ
    size_of None = 0
    size_of (Some x) = value_size x
found_cond false v o w n k e = let h = k w e in omega (arith, h)

pub member_smaller : (n : List ℕ) (ms : Members) (w : Value) → member_at n ms ≡ Some w → value_size w < members_size ms
member_smaller n no_members w e = absurd (cc)
member_smaller n (member k v ms) w e = found_cond (bytes_eq n k) v (member_at n ms) w (members_size ms) (member_smaller n ms) e

pub sized : (v : Value) → 0 < value_size v
sized null = omega arith
sized (value.boolean b) = omega arith
sized (number z) = omega arith
sized fraction = omega arith
sized (text n) = omega arith
sized (list xs) = omega arith
sized (object ms) = omega arith

given_smaller : (b : Bool) (o : Option Value) (w : Value) (n : ℕ) → (o ≡ Some w → value_size w < n) → cond b None o ≡ Some w → value_size w < n
given_smaller true o w n k e = absurd (cc)
given_smaller false o w n k e = k e

pub member_smaller_given : (p : Option (List ℕ)) (n : List ℕ) (ms : Members) (w : Value) → given_at p n ms ≡ Some w → value_size w < members_size ms
member_smaller_given p n ms w e = given_smaller (is_passed p n) (member_at n ms) w (members_size ms) (member_smaller n ms w) e

pub only_smaller : (ms : Members) (n : List ℕ) (w : Value) → Some (n, w) ≡ only_of ms → value_size w < members_size ms
only_smaller no_members n w e = absurd (cc)
only_smaller (member k v no_members) n w e = let h : value_size v ≡ value_size w = ap size_of (sym e) in omega (arith, h)
  where
    size_of : Option (List ℕ × Value) → ℕ
    size_of None = 0
    size_of (Some p) = value_size p.1
only_smaller (member k v (member l u ms)) n w e = absurd (cc)
