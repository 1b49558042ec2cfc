-- Items and members as lists, their sizes, and the parts of a small value.
use Rattle.std.proofs.Common.{◌≡◌, ℕ, ◌≤◌, List, [], ◌∷◌, Bool, true, false, ◌&&◌, refl, ap, arith}
use Rattle.std.specs.Prelude.{All, IfSome, Option, Some, IsUtf8, if◌then◌else◌, bytes_eq}
use Rattle.std.proofs.lemmas.List.Elements.{All-cons, All-nil}
use Rattle.json_value.specs.Value.{Value, Items, Members, null, boolean, number, fraction, text, list, object, no_items, item, no_members, member, values, items, entries, members, member_at, is_whole, all_whole, members_whole, IsSmall, AllSmall, MembersSmall, value_size, items_size, members_size}
use Rattle.json_value.specs.Laws.{ChildrenAreSmaller, PartsAreSmall, ListsAreItems}

pub items-values : (vs : Items) → items (values vs) ≡ vs
items-values no_items = refl
items-values (item v vs) = ap (item v) (items-values vs)

pub values-items : (vs : List Value) → values (items vs) ≡ vs
values-items [] = refl
values-items (v ∷ vs) = ap (λ z. v ∷ z) (values-items vs)

pub members-entries : (ms : Members) → members (entries ms) ≡ ms
members-entries no_members = refl
members-entries (member k v ms) = ap (member k v) (members-entries ms)

pub entries-members : (es : List (List ℕ × Value)) → entries (members es) ≡ es
entries-members [] = refl
entries-members (e ∷ es) = ap (λ z. e ∷ z) (entries-members es)

pub the_lists : ListsAreItems
the_lists = (items-values, values-items, members-entries, entries-members)

both : (a b : Bool) → a ≡ true → b ≡ true → (a && b) ≡ true
both a b h k = λ i. h i && k i

mutual
  pub small-whole : (v : Value) → IsSmall v → is_whole v ≡ true
  small-whole null h = refl
  small-whole (boolean b) h = refl
  small-whole (number z) h = refl
  small-whole fraction h = absurd h
  small-whole (text s) h = refl
  small-whole (list xs) h = all_small-whole xs h
  small-whole (object ms) h = members_small-whole ms h

  all_small-whole : (vs : Items) → AllSmall vs → all_whole vs ≡ true
  all_small-whole no_items h = refl
  all_small-whole (item v vs) h = both _ _ (small-whole v h.0) (all_small-whole vs h.1)

  members_small-whole : (ms : Members) → MembersSmall ms → members_whole ms ≡ true
  members_small-whole no_members h = refl
  members_small-whole (member k v ms) h = both _ _ (small-whole v h.1) (members_small-whole ms h.3)

-- ---- sizes

item-below : (vs : Items) → All (λ v. value_size v ≤ items_size vs) (values vs)
item-below no_items = All-nil _
item-below (item v vs) = All-cons (λ w. value_size w ≤ items_size (item v vs)) v (values vs) (omega arith) (λ k d h. let e = item-below vs k d h in omega arith)

entry-below : (ms : Members) → All (λ e. (1 ≤ members_size ms) × (value_size e.1 ≤ members_size ms)) (entries ms)
entry-below no_members = All-nil _
entry-below (member k v ms) =
    All-cons (λ e. (1 ≤ members_size (member k v ms)) × (value_size e.1 ≤ members_size (member k v ms))) (k, v) (entries ms) (omega arith, omega arith)
    (λ j d h. let e = (entry-below ms j d h).1 in (omega arith, omega arith))

pub children_smaller : ChildrenAreSmaller
children_smaller = (
  λ vs k d h. let e = item-below vs k d h in omega arith,
  λ ms k d h. let e = entry-below ms k d h in (let a = e.0 in omega arith, let b = e.1 in omega arith),
)

-- ---- the parts of a small value

items_small : (vs : Items) → AllSmall vs → All IsSmall (values vs)
items_small no_items h = All-nil _
items_small (item v vs) h = All-cons IsSmall v (values vs) h.0 (items_small vs h.1)

entries_small : (ms : Members) → MembersSmall ms → All (λ e. IsUtf8 e.0 × IsSmall e.1) (entries ms)
entries_small no_members h = All-nil _
entries_small (member k v ms) h = All-cons (λ e. IsUtf8 e.0 × IsSmall e.1) (k, v) (entries ms) (h.0, h.1) (entries_small ms h.3)

chosen : (b : Bool) (x y : Option Value) → IfSome x IsSmall → IfSome y IsSmall → IfSome (if b then x else y) IsSmall
chosen true x y h k = h
chosen false x y h k = k

found_small : (n : List ℕ) (ms : Members) → MembersSmall ms → IfSome (member_at n ms) IsSmall
found_small n no_members h = tt
found_small n (member k v ms) h = chosen (bytes_eq n k) (Some v) (member_at n ms) h.1 (found_small n ms h.3)

pub parts_small : PartsAreSmall
parts_small = (items_small, entries_small, found_small)
