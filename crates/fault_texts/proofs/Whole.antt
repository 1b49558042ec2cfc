-- A value whose numbers are whole has no float.
use Rattle.std.proofs.Common.{◌≡◌, ℕ, List, Bool, true, false, ◌&&◌, ◌||◌, refl, ap, ◌∙◌}
use Rattle.std.specs.Prelude.{not, if◌then◌else◌, []}
use Rattle.serde_json.specs.Data as data'
use Rattle.serde_json.specs.Data.{Data, Num, unsigned, negative, float}
use Rattle.serde_json.specs.Find.{is_float}
use Rattle.serde_json.specs.Written.{compact_text, has_float, items_have_float, members_have_float}
use Rattle.json_value.specs.Value.{is_whole, all_whole, members_whole}
use Rattle.json_value.specs.View.{value_of, items_of, members_of, number_value}
use Rattle.fault_texts.specs.Explained.{line, whole_line}

not_and : (a b : Bool) → (not a || not b) ≡ not (a && b)
not_and true b = refl
not_and false b = refl

of_number : (n : Num) → is_float n ≡ not (is_whole (number_value n))
of_number (unsigned n) = refl
of_number (negative z) = refl
of_number (float x) = refl

mutual
  floats : (d : Data) → has_float d ≡ not (is_whole (value_of d))
  floats data'.null = refl
  floats (data'.boolean b) = refl
  floats (data'.number n) = of_number n
  floats (data'.string s) = refl
  floats (data'.array ds) = item_floats ds
  floats (data'.object ms) = member_floats ms

  item_floats : (ds : data'.Items) → items_have_float ds ≡ not (all_whole (items_of ds))
  item_floats data'.no_items = refl
  item_floats (data'.item d ds) = (λ i. floats d i || item_floats ds i) ∙ not_and (is_whole (value_of d)) (all_whole (items_of ds))

  member_floats : (ms : data'.Members) → members_have_float ms ≡ not (members_whole (members_of ms))
  member_floats data'.no_members = refl
  member_floats (data'.member k d ms) = (λ i. floats d i || member_floats ms i) ∙ not_and (is_whole (value_of d)) (members_whole (members_of ms))

pub whole_has_no_float : (d : Data) → is_whole (value_of d) ≡ true → has_float d ≡ false
whole_has_no_float d h = floats d ∙ ap not h

pub whole_is_shown : (word : List ℕ) (d : Data) → is_whole (value_of d) ≡ true → whole_line word d ≡ line word (compact_text d)
whole_is_shown word d h = ap (λ b. if b then line word (compact_text d) else []) h
