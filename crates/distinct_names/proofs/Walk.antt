-- Items and members that are walked one by one.
use Rattle.std.proofs.Common.{◌≡◌, ℕ, ◌+◌, ◌<◌, ◌≤◌, List, [], ◌∷◌, map, get_or, drop, length, false, ◌||◌, bytes_eq, string_bytes, String, refl, ap, sym, subst, ◌∙◌}
use Rattle.std.specs.declared.alloc.Global.{Global}
use Rattle.std.specs.List.{AllByRecursion}
use Rattle.std.specs.List.Sorted.{IsStrictlySortedBy}
use Rattle.std.proofs.lemmas.List.{drop_more, drop_all}
use Rattle.std.proofs.lemmas.Map.Keys.{sorted_head, sorted_tail}
use Rattle.std.proofs.lemmas.Map.Text.{is_eq-slice_cmp}
use Rattle.std.specs.Ordering.{nat_cmp, is_eq}
use Rattle.std.specs.Cmp.Lexicographic.{slice_cmp}
use Rattle.std.specs.declared.cmp.Ordering.{Ordering}
use Rattle.std.specs.declared.cmp.Ordering.TheVariants.{Less}
use Rattle.serde_json.specs.declared.value.Value.{Value}
use Rattle.serde_json.specs.View.{view, items_view, members_view}
use Rattle.json_value.specs.Value.{Members, no_members, member, has_name}
use Rattle.json_value.specs.View.{value_of, items_of, members_of}
use Rattle.distinct_names.specs.Names.{NamesDiffer, NamesOfItemsDiffer, MembersDiffer}

-- names differ in each of these
abbrev pub AllDiffer : List Value → Type 0
AllDiffer vs = NamesOfItemsDiffer (items_of (items_view vs))

pub one_item : (vs : List Value) (i : ℕ) (v : Value) → i < length vs → v ≡ get_or vs i v → NamesDiffer (value_of (view v)) → AllDiffer (drop (i + 1) vs) → AllDiffer (drop i vs)
one_item vs i v h e d rest =
    let split : drop i vs ≡ v ∷ drop (i + 1) vs = drop_more vs i v h ∙ ap (λ z. z ∷ drop (i + 1) vs) (sym e) in
    subst AllDiffer (sym split) (d, rest)

pub no_item_left : (vs : List Value) (i : ℕ) → length vs ≤ i → AllDiffer (drop i vs)
no_item_left vs i h = subst AllDiffer (sym (drop_all i vs h)) tt

-- names differ in each value of the members
abbrev pub ValuesDiffer : Members → Type 0
ValuesDiffer no_members = Unit {0}
ValuesDiffer (member k v ms) = NamesDiffer v × ValuesDiffer ms

abbrev pub Entry : Type 0
Entry = String Global × Value

abbrev pub EachDiffers : List Entry → Type 0
EachDiffers es = ValuesDiffer (members_of (members_view es))

-- names that stand in order differ
module _ (c : String Global → String Global → Ordering) (by_bytes : (a b : String Global) → c a b ≡ slice_cmp nat_cmp (string_bytes a) (string_bytes b)) where
  absent : (k : String Global) (es : List Entry) → AllByRecursion (λ l. c k l ≡ Less) (map (λ e. e.0) es) → has_name (string_bytes k) (members_of (members_view es)) ≡ false
  absent k [] h = refl
  absent k (e ∷ es) h =
      let other : bytes_eq (string_bytes k) (string_bytes e.0) ≡ false = sym (is_eq-slice_cmp (string_bytes k) (string_bytes e.0)) ∙ ap is_eq (sym (by_bytes k e.0) ∙ h.0) in
      λ i. other i || absent k es h.1 i

  pub ordered_differ : (es : List Entry) → IsStrictlySortedBy c (map (λ e. e.0) es) → EachDiffers es → MembersDiffer (members_of (members_view es))
  ordered_differ [] h d = tt
  ordered_differ (e ∷ es) h d =
      (absent e.0 es (sorted_head c e.0 (map (λ e. e.0) es) h), d.0, ordered_differ es (sorted_tail c e.0 (map (λ e. e.0) es) h) d.1)
