-- The members of a map, by name.
use Rattle.std.proofs.Common.{◌≡◌, ℕ, List, [], ◌∷◌, Option, Some, Less, string_bytes, string_cmp, is_eq, Bool, true, false, ◌&&◌, ◌||◌, bytes_eq, refl, sym, ap, ◌∙◌}
use Rattle.std.specs.Prelude.{not, is_some, if◌then◌else◌}
use Rattle.std.specs.List.{list_any, AllByRecursion}
use Rattle.std.specs.List.Sorted.{IsStrictlySortedBy}
use Rattle.std.specs.Map.{keys_of}
use Rattle.std.proofs.lemmas.Map.Text.{is_eq-slice_cmp}
use Rattle.serde_json.specs.View.{members_view}
use Rattle.serde_json.proofs.Views.{Entry}
use Rattle.json_value.specs.Value.{Value, Members, member, no_members, member_at}
use Rattle.json_value.specs.View.{members_of}
use Rattle.schema_faults.specs.Keywords.{are_distinct, names}

abbrev pub entry_names : List Entry → List (List ℕ)
entry_names es = names (members_of (members_view es))

both : (a b : Bool) → a ≡ true → b ≡ true → (a && b) ≡ true
both a b h k = λ i. h i && k i

above : (e : Entry) (es : List Entry) → AllByRecursion (λ y. string_cmp e.0 y ≡ Less) (keys_of es) → list_any (bytes_eq (string_bytes e.0)) (entry_names es) ≡ false
above e [] h = refl
above e (f ∷ es) h =
    let differs : bytes_eq (string_bytes e.0) (string_bytes f.0) ≡ false = sym (is_eq-slice_cmp (string_bytes e.0) (string_bytes f.0)) ∙ ap is_eq h.0 in
    let rest = above e es h.1 in
    λ i. differs i || rest i

pub distinct : (es : List Entry) → IsStrictlySortedBy string_cmp (keys_of es) → are_distinct (entry_names es) ≡ true
unfolding IsStrictlySortedBy
distinct [] h = refl
distinct (e ∷ es) h = both _ _ (ap not (above e es h.0)) (distinct es h.1)

chosen_some : (b : Bool) (v : Value) (o : Option Value) → is_some (if b then Some v else o) ≡ (b || is_some o)
chosen_some true v o = refl
chosen_some false v o = refl

-- a name is among the names exactly where it has a member
pub is_named : (n : List ℕ) (ms : Members) → is_some (member_at n ms) ≡ list_any (bytes_eq n) (names ms)
is_named n no_members = refl
is_named n (member k v ms) = chosen_some (bytes_eq n k) v (member_at n ms) ∙ ap (λ b. bytes_eq n k || b) (is_named n ms)
