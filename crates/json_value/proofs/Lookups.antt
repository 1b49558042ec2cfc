-- A look-up in a map of serde_json finds the member that the definitions find.
use Rattle.std.proofs.Common.{◌≡◌, ℕ, List, Option, Some, None, option_map, Ordering, Less, Equal, Greater, string_bytes, nat_cmp, is_eq, Bor, refl, ap, ◌∙◌}
use Rattle.std.specs.Prelude.{if◌then◌else◌}
use Rattle.std.specs.Map.{lookup}
use Rattle.std.specs.BTreeMap.{is_at}
use Rattle.std.specs.Ordering.{match_ordering}
use Rattle.std.specs.Cmp.Lexicographic.{slice_cmp}
use Rattle.std.proofs.lemmas.Map.Text.{is_eq-slice_cmp}
use Rattle.serde_json.specs.Data as data'
use Rattle.serde_json.specs.Data.{Data}
use Rattle.serde_json.specs.Find.{get_member}
use Rattle.serde_json.specs.View.{view, members_view}
use Rattle.serde_json.specs.declared.value.Value.{Value as Read}
use Rattle.serde_json.proofs.Views.{Entry, view-lookup}
use Rattle.json_value.specs.Value.{Value, member_at}
use Rattle.json_value.specs.View.{value_of, members_of}

chosen : (o : Ordering) (e : Data) (r : Option Data) (m : Option Value) → option_map value_of r ≡ m → option_map value_of (match_ordering o r (Some e) r) ≡ (if is_eq o then Some (value_of e) else m)
chosen Less e r m h = h
chosen Equal e r m h = refl
chosen Greater e r m h = h

found : (n : List ℕ) (ms : data'.Members) → option_map value_of (get_member n ms) ≡ member_at n (members_of ms)
found n data'.no_members = refl
found n (data'.member l e ms) = chosen (slice_cmp nat_cmp n l) e (get_member n ms) (member_at n (members_of ms)) (found n ms) ∙ ap (λ b. if b then Some (value_of e) else member_at n (members_of ms)) (is_eq-slice_cmp n l)

value_of_ref : (r : Option (Bor Read)) → option_map (λ x. value_of (view x.now)) r ≡ option_map value_of (option_map view (option_map (λ x. x.now) r))
value_of_ref None = refl
value_of_ref (Some x) = refl

-- what a map has at a name
pub got : (n : List ℕ) (es : List Entry) (r : Option (Bor Read)) → option_map (λ x. x.now) r ≡ lookup (is_at (λ k. slice_cmp nat_cmp n (string_bytes k))) es
    → option_map (λ x. value_of (view x.now)) r ≡ member_at n (members_of (members_view es))
got n es r h = value_of_ref r ∙ ap (λ o. option_map value_of (option_map view o)) h ∙ ap (option_map value_of) (view-lookup n es) ∙ found n (members_view es)
