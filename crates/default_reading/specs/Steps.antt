-- The steps of reading, each in the words of what values come to.
use Rattle.std.specs.Prelude.{◌≡◌, ⊤, ℕ, ◌&&◌, ◌||◌, not, List, [], ◌∷◌, Bool, false, Option, Some, None, option_map, bytes_eq, if◌then◌else◌}
use Rattle.json_value.specs.Value.{Value, Items, no_items, item, Members, no_members, member, member_at, has_name, text, list, object}
use Rattle.schema_defs.specs.Texts.{Relations}
use Rattle.entry_defs.specs.Entry.{State, Entry, Rest, no_rest, rest, Fields, FieldEntry, fields_of, rest_of, Contents, unit_contents, newtype_contents, tuple_contents, struct_contents}
use Rattle.entry_defs.specs.Layer.{contents_entry, is_field, is_unit}
use Rattle.entry_defs.specs.Table.{Table}
use Rattle.default_defs.specs.Found.{Found, refused, ended, if_so, told, both, or_next, given}
use Rattle.default_defs.specs.Layer.{left_out}
use Rattle.default_reading.specs.Seen.{Variant, case_named, content, tagged_case}
use Rattle.default_defs.specs.Supplied.{parts_of, read_inside, read_within, value_read}

-- a table, and how many defaults may be read inside one another below a value
pub record Setting : Type 0 where
  pub table : Table
  pub inside : ℕ

abbrev pub setting : Table → ℕ → Setting
setting t n = record { table = t; inside = n }

-- what the stated default of a field comes to
abbrev pub missed : Setting → Relations → Entry → Value → Found
missed s r = read_inside s.table r s.inside

-- what a value comes to where so many references may be followed at it
unfoldable pub comes_in : Setting → Relations → ℕ → Entry → Value → Found
comes_in s r n e v = read_within s.table r (missed s r) v (parts_of s.table r (missed s r) v) n e

-- what it comes to
unfoldable pub comes : Setting → Relations → Entry → Value → Found
comes s r e v = value_read s.table r (missed s r) v e

-- what a default comes to, where the field is left out
unfoldable pub supplies : Setting → Relations → Entry → Value → Found
supplies s r e v = given (missed s r e v)

-- ---- kinds of values

abbrev pub as_list : Value → Option Items
as_list (list xs) = Some xs
as_list _ = None

abbrev pub as_object : Value → Option Members
as_object (object ms) = Some ms
as_object _ = None

abbrev pub as_text : Value → Option (List ℕ)
as_text (text n) = Some n
as_text _ = None

-- ---- names

-- the name that is passed over
abbrev pub is_passed : Option (List ℕ) → List ℕ → Bool
is_passed None n = false
is_passed (Some p) n = bytes_eq p n

abbrev pub given_at : Option (List ℕ) → List ℕ → Members → Option Value
given_at p n ms = if is_passed p n then None else member_at n ms

abbrev pub is_other : Option (List ℕ) → List FieldEntry → List ℕ → Bool
is_other p fs n = not (is_passed p n) && not (is_field fs n)

-- whether a member has neither name
abbrev pub has_beyond : List ℕ → List ℕ → Members → Bool
has_beyond a b no_members = false
has_beyond a b (member n v ms) = (not (bytes_eq a n) && not (bytes_eq b n)) || has_beyond a b ms

-- whether a member has a name that no field has, and that isn't passed over
abbrev pub has_others : Option (List ℕ) → List FieldEntry → Members → Bool
has_others p fs no_members = false
has_others p fs (member n v ms) = is_other p fs n || has_others p fs ms

-- no name stands twice
abbrev pub Differ : Members → Type 0
Differ no_members = ⊤
Differ (member n v ms) = (has_name n ms ≡ false) × Differ ms

-- the only member
abbrev pub only_of : Members → Option (List ℕ × Value)
only_of (member n v no_members) = Some (n, v)
only_of _ = None

-- ---- items and members

module _ (s : Setting) (r : Relations) where
  abbrev pub items_come : Entry → Items → Found
  items_come e no_items = ended
  items_come e (item v vs) = both (comes s r e v) (items_come e vs)

  abbrev pub places_come : List Entry → Items → Found
  places_come [] no_items = ended
  places_come (e ∷ es) (item v vs) = both (comes s r e v) (places_come es vs)
  places_come _ _ = refused

  abbrev pub members_come : Entry → Entry → Members → Found
  members_come k e no_members = ended
  members_come k e (member n v ms) = both (both (comes s r k (text n)) (comes s r e v)) (members_come k e ms)

  -- ---- fields

  abbrev pub field_comes : State → Entry → Option Value → Found
  field_comes w e None = left_out (missed s r) w e
  field_comes w e (Some v) = comes s r e v

  abbrev pub fields_come : Option (List ℕ) → List FieldEntry → Members → Found
  fields_come p [] ms = ended
  fields_come p (f ∷ fs) ms = both (field_comes f.state f.entry (given_at p f.name ms)) (fields_come p fs ms)

  abbrev pub rest_comes : Rest → Value → Found
  rest_comes no_rest v = ended
  rest_comes (rest i e) v = comes s r e v

  -- the members that no field names
  abbrev pub others_come : Option (List ℕ) → List FieldEntry → Rest → Members → Found
  others_come p fs o no_members = ended
  others_come p fs o (member n v ms) = both (if is_other p fs n then rest_comes o v else ended) (others_come p fs o ms)

  abbrev pub struct_comes : Option (List ℕ) → Bool → Fields → Members → Found
  struct_comes p closed fs ms = if_so (not (closed && has_others p (fields_of fs) ms)) (both (fields_come p (fields_of fs) ms) (others_come p (fields_of fs) (rest_of fs) ms))

  -- ---- contents

  -- contents that aren't those of a unit
  abbrev pub content_comes : Bool → Contents → Value → Found
  content_comes closed c v = if_so (not (is_unit c)) (comes s r (contents_entry closed c) v)

  abbrev pub named_comes : Bool → Option Contents → Value → Found
  named_comes closed None v = refused
  named_comes closed (Some c) v = content_comes closed c v

  abbrev pub beside_comes : Bool → List ℕ → Members → Contents → Found
  beside_comes closed tag ms unit_contents = if_so (not (closed && has_beyond tag tag ms)) ended
  beside_comes closed tag ms (struct_contents fs) = struct_comes (Some tag) closed fs ms
  beside_comes closed tag ms (newtype_contents e) = refused
  beside_comes closed tag ms (tuple_contents es) = refused

  abbrev pub given_content : Bool → Contents → Option Value → Found
  given_content closed c None = told (is_unit c)
  given_content closed c (Some v) = content_comes closed c v

  abbrev pub adjacent_comes : Bool → List ℕ → List ℕ → Members → Contents → Found
  adjacent_comes closed tag beside ms c = if_so (not (closed && has_beyond tag beside ms)) (given_content closed c (member_at beside ms))

  -- by the first that takes the value
  abbrev pub first_comes : ℕ → Bool → List Contents → Value → Found
  first_comes n closed [] v = refused
  first_comes n closed (c ∷ cs) v = or_next (comes_in s r n (contents_entry closed c) v) (first_comes n closed cs v)

  -- ---- enums of these variants

  abbrev pub by_case : (Contents → Found) → Option Variant → Found
  by_case j None = refused
  by_case j (Some w) = j (content w)

  abbrev pub by_only : Bool → List Variant → Option (List ℕ × Value) → Found
  by_only closed ws None = refused
  by_only closed ws (Some p) = named_comes closed (option_map content (case_named p.0 ws)) p.1

  abbrev pub only_comes : Bool → List Variant → Members → Found
  only_comes closed ws ms = by_only closed ws (only_of ms)

  abbrev pub internal_comes : Bool → List ℕ → List Variant → Members → Found
  internal_comes closed tag ws ms = by_case (beside_comes closed tag ms) (tagged_case tag ws ms)

  abbrev pub adjacent_by : Bool → List ℕ → List ℕ → List Variant → Members → Found
  adjacent_by closed tag beside ws ms = by_case (adjacent_comes closed tag beside ms) (tagged_case tag ws ms)
