-- Items and members that are walked one by one.
use Rattle.std.proofs.Common.{◌≡◌, ℕ, ◌+◌, ◌<◌, ◌≤◌, List, [], ◌∷◌, map, get_or, drop, length, string_bytes, String, ap, sym, subst, ◌∙◌}
use Rattle.std.specs.declared.alloc.Global.{Global}
use Rattle.std.specs.List.Sorted.{IsStrictlySortedBy}
use Rattle.std.proofs.lemmas.List.{drop_more, drop_all}
use Rattle.std.proofs.lemmas.Map.Keys.{sorted_head, sorted_tail}
use Rattle.std.specs.Ordering.{nat_cmp}
use Rattle.std.specs.Cmp.Lexicographic.{slice_cmp}
use Rattle.std.specs.declared.cmp.Ordering.{Ordering}
use Rattle.serde_json.specs.declared.value.Value.{Value}
use Rattle.serde_json.specs.View.{view, items_view, members_view}
use Rattle.json_value.specs.Value.{Members, no_members, member, IsBelowFirst}
use Rattle.json_value.specs.View.{value_of, items_of, members_of}
use Rattle.writing_laws.specs.Tables.{IsOrdered, ItemsOrdered, MembersOrdered}

-- names rise in each of these
abbrev pub AllRise : List Value → Type 0
AllRise vs = ItemsOrdered (items_of (items_view vs))

pub one_item : (vs : List Value) (i : ℕ) (v : Value) → i < length vs → v ≡ get_or vs i v → IsOrdered (value_of (view v)) → AllRise (drop (i + 1) vs) → AllRise (drop i vs)
one_item vs i v h e d rest =
    let split : drop i vs ≡ v ∷ drop (i + 1) vs = drop_more vs i v h ∙ ap (λ z. z ∷ drop (i + 1) vs) (sym e) in
    subst AllRise (sym split) (d, rest)

pub no_item_left : (vs : List Value) (i : ℕ) → length vs ≤ i → AllRise (drop i vs)
no_item_left vs i h = subst AllRise (sym (drop_all i vs h)) tt

-- names rise in each value of the members
abbrev pub ValuesRise : Members → Type 0
ValuesRise no_members = Unit {0}
ValuesRise (member k v ms) = IsOrdered v × ValuesRise ms

abbrev pub Entry : Type 0
Entry = String Global × Value

abbrev pub EachRises : List Entry → Type 0
EachRises es = ValuesRise (members_of (members_view es))

-- names that stand in order rise
module _ (c : String Global → String Global → Ordering) (by_bytes : (a b : String Global) → c a b ≡ slice_cmp nat_cmp (string_bytes a) (string_bytes b)) where
  below : (e : Entry) (es : List Entry) → IsStrictlySortedBy c (map (λ e. e.0) (e ∷ es)) → IsBelowFirst (string_bytes e.0) (members_of (members_view es))
  below e [] h = tt
  below e (f ∷ es) h = sym (by_bytes e.0 f.0) ∙ (sorted_head c e.0 (map (λ e. e.0) (f ∷ es)) h).0

  pub ordered_rise : (es : List Entry) → IsStrictlySortedBy c (map (λ e. e.0) es) → EachRises es → MembersOrdered (members_of (members_view es))
  ordered_rise [] h d = tt
  ordered_rise (e ∷ es) h d = (below e es h, d.0, ordered_rise es (sorted_tail c e.0 (map (λ e. e.0) es) h) d.1)
