-- JSON values (RFC 8259). A number is a whole number; `fraction` stands for any other and carries nothing. Texts and names are their UTF-8 bytes.
use Rattle.std.specs.Prelude.{ℕ, suc, ◌+◌, ◌&&◌, ◌||◌, ℤ, List, [], ◌∷◌, Bool, true, false, Option, Some, None, ◌≡◌, ⊤, IsUtf8, FitsSigned, bytes_eq, if◌then◌else◌}
use Rattle.std.specs.declared.cmp.Ordering.TheVariants.{Less}
use Rattle.std.specs.Ordering.{nat_cmp, int_eq, bool_cmp, is_eq}
use Rattle.std.specs.Cmp.Lexicographic.{slice_cmp}
use Rattle.std.specs.Int.{w64}

mutual
  pub data Value : Type 0 where
    null : Value
    boolean : Bool → Value
    number : ℤ → Value
    fraction : Value
    text : List ℕ → Value
    list : Items → Value
    object : Members → Value

  pub data Items : Type 0 where
    no_items : Items
    item : Value → Items → Items

  pub data Members : Type 0 where
    no_members : Members
    member : List ℕ → Value → Members → Members

-- ---- equality, as a test

abbrev pub same_bool : Bool → Bool → Bool
same_bool a b = is_eq (bool_cmp a b)

-- whether two values have the same parts
abbrev mutual
  pub same : Value → Value → Bool
  same null null = true
  same (boolean a) (boolean b) = same_bool a b
  same (number a) (number b) = int_eq a b
  same fraction fraction = true
  same (text a) (text b) = bytes_eq a b
  same (list a) (list b) = same_items a b
  same (object a) (object b) = same_members a b
  same _ _ = false

  pub same_items : Items → Items → Bool
  same_items no_items no_items = true
  same_items (item a xs) (item b ys) = same a b && same_items xs ys
  same_items _ _ = false

  pub same_members : Members → Members → Bool
  same_members no_members no_members = true
  same_members (member j a xs) (member k b ys) = bytes_eq j k && (same a b && same_members xs ys)
  same_members _ _ = false

-- ---- items and members as lists, and what stands among them

abbrev pub values : Items → List Value
values no_items = []
values (item v vs) = v ∷ values vs

abbrev pub items : List Value → Items
items [] = no_items
items (v ∷ vs) = item v (items vs)

abbrev pub entries : Members → List (List ℕ × Value)
entries no_members = []
entries (member k v ms) = (k, v) ∷ entries ms

abbrev pub members : List (List ℕ × Value) → Members
members [] = no_members
members (e ∷ es) = member e.0 e.1 (members es)

abbrev pub item_count : Items → ℕ
item_count no_items = 0
item_count (item v vs) = suc (item_count vs)

abbrev pub member_count : Members → ℕ
member_count no_members = 0
member_count (member k v ms) = suc (member_count ms)

-- the value of a name
abbrev pub member_at : List ℕ → Members → Option Value
member_at n no_members = None
member_at n (member k v ms) = if bytes_eq n k then Some v else member_at n ms

abbrev pub has_name : List ℕ → Members → Bool
has_name n no_members = false
has_name n (member k v ms) = bytes_eq n k || has_name n ms

-- whether a value is among the items
abbrev pub is_among : Value → Items → Bool
is_among v no_items = false
is_among v (item w ws) = same v w || is_among v ws

-- ---- whole and small values

-- no number in the value is a fraction
abbrev mutual
  pub is_whole : Value → Bool
  is_whole fraction = false
  is_whole (list xs) = all_whole xs
  is_whole (object ms) = members_whole ms
  is_whole _ = true

  pub all_whole : Items → Bool
  all_whole no_items = true
  all_whole (item v vs) = is_whole v && all_whole vs

  pub members_whole : Members → Bool
  members_whole no_members = true
  members_whole (member k v ms) = is_whole v && members_whole ms

-- the name stands below the first of the members, compared byte by byte
abbrev pub IsBelowFirst : List ℕ → Members → Type 0
IsBelowFirst k no_members = ⊤
IsBelowFirst k (member l v ms) = slice_cmp nat_cmp k l ≡ Less

-- at each level numbers lie from -2^63 to 2^63 - 1, texts and names are UTF-8, and names rise
abbrev mutual
  pub IsSmall : Value → Type 0
  IsSmall null = ⊤
  IsSmall (boolean b) = ⊤
  IsSmall (number z) = FitsSigned w64 z
  IsSmall fraction = ⊥
  IsSmall (text s) = IsUtf8 s
  IsSmall (list xs) = AllSmall xs
  IsSmall (object ms) = MembersSmall ms

  pub AllSmall : Items → Type 0
  AllSmall no_items = ⊤
  AllSmall (item v vs) = IsSmall v × AllSmall vs

  pub MembersSmall : Members → Type 0
  MembersSmall no_members = ⊤
  MembersSmall (member k v ms) = IsUtf8 k × IsSmall v × IsBelowFirst k ms × MembersSmall ms

-- ---- sizes

-- the nodes of a value: each item, member value and member name is smaller than its owner
abbrev mutual
  pub value_size : Value → ℕ
  value_size (list xs) = 1 + items_size xs
  value_size (object ms) = 1 + members_size ms
  value_size _ = 1

  pub items_size : Items → ℕ
  items_size no_items = 0
  items_size (item v vs) = value_size v + items_size vs

  pub members_size : Members → ℕ
  members_size no_members = 0
  members_size (member k v ms) = 1 + value_size v + members_size ms
