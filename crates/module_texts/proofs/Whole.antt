-- A value whose numbers are whole holds no float.
use Rattle.std.proofs.Common.{◌≡◌, Bool, true, false, ◌&&◌, ◌||◌, true≢false, refl, sym, ap, ◌∙◌}
use Rattle.serde_json.specs.Data.{Data, Items, Members, null, boolean, number, string, array, object, unsigned, negative, float, no_items, item, no_members, member}
use Rattle.serde_json.specs.Written.{has_float, items_have_float, members_have_float}
use Rattle.json_value.specs.Value.{is_whole, all_whole, members_whole}
use Rattle.json_value.specs.View.{value_of, items_of, members_of}

left : (a b : Bool) → (a && b) ≡ true → a ≡ true
left true b h = refl
left false b h = h

right : (a b : Bool) → (a && b) ≡ true → b ≡ true
right true b h = h
right false b h = absurd (true≢false (sym h))

neither : (a b : Bool) → a ≡ false → b ≡ false → (a || b) ≡ false
neither a b h k = ap (λ c. c || b) h ∙ k

mutual
  pub no_float : (d : Data) → is_whole (value_of d) ≡ true → has_float d ≡ false
  no_float null h = refl
  no_float (boolean b) h = refl
  no_float (number (unsigned n)) h = refl
  no_float (number (negative z)) h = refl
  no_float (number (float x)) h = absurd (true≢false (sym h))
  no_float (string s) h = refl
  no_float (array ds) h = no_item_float ds h
  no_float (object ms) h = no_member_float ms h

  no_item_float : (ds : Items) → all_whole (items_of ds) ≡ true → items_have_float ds ≡ false
  no_item_float no_items h = refl
  no_item_float (item d ds) h = neither _ _ (no_float d (left _ (all_whole (items_of ds)) h)) (no_item_float ds (right (is_whole (value_of d)) _ h))

  no_member_float : (ms : Members) → members_whole (members_of ms) ≡ true → members_have_float ms ≡ false
  no_member_float no_members h = refl
  no_member_float (member k d ms) h = neither _ _ (no_float d (left _ (members_whole (members_of ms)) h)) (no_member_float ms (right (is_whole (value_of d)) _ h))
