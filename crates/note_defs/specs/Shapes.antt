-- The shape of each kind of note at a schema of the conversion tree, one definition a kind: the text of the table stands above each.
use Rattle.std.specs.Prelude.{ℕ, zero, suc, ◌&&◌, ◌||◌, not, nat_eq, int_le, int_lt, List, [], ◌∷◌, filter, Bool, true, false, Option, Some, None, is_none, is_some, option_and_then, bytes_eq, codes, if◌then◌else◌}
use Rattle.std.specs.List.{list_any, list_all}
use Rattle.json_value.specs.Value as value
use Rattle.json_value.specs.Value.{Value, null, number, text, list}
use Rattle.schema_defs.specs.Integers.{Range}
use Rattle.schema_defs.specs.Location.{Step, Location, place}
use Rattle.schema_defs.specs.Layer.{format_of, is_given, is_listed}
use Rattle.schema_defs.specs.Schema.{Types, one_type, many_types, Numbers, Plain, Schema, boolean, object, Same, no_same, same_value, Lists, no_lists, lists, Named, no_named, named, MaybeSchema, no_schema, the_schema, MaybeSchemas, no_list, the_list, Schemas, no_more, schema, Places, no_items, each_item, by_place, Properties, no_properties, property, ListRules, MemberRules, Document, schema_list}
use Rattle.schema_types.specs.Same.{same_schemas}
use Rattle.enum_defs.specs.Words.{without_same, without_lists, without_named, names_of, props_of}
use Rattle.enum_defs.specs.Shapes.{is_null_schema, option_shape, external_shape, adjacent_shape, internal_shape, ObjectShape, object_shape, closedness, members_of, AdjacentShape}
use Rattle.enum_defs.specs.Exclusive.{exclusive}
use Rattle.enum_defs.specs.Kinds.{null_free}
use Rattle.convert_defs.specs.Row.{Way, narrowed, widened, NoteKind, untyped_note, null_note, const_note, integer_note, string_note, array_note, open_branch_note, mixed_branches_note, tag_alone_note, boolean_note, type_note, overlap_note, counts_note, names_note, not_note}
use Rattle.convert_defs.specs.IntegerRow.{admitted_range, range_of_plain, in_i64}
use Rattle.convert_defs.specs.Order.{same_place, way_number}
use Rattle.note_defs.specs.Taken.{RowName, refused, boolean_schema, null_and_a_type, text_type, untyped_texts, text_list, lone_text, integer_type, boolean_type, object_type, untyped_members, array_type, untyped_items, nothing_asked, null_type, lone_reference, reference_of_its_type, merged_reference, typed_list, lone_list, one_subschema_keyword, merged_subschemas, lone_constant, all_types, one_listed_type, listed_types, no_row, taken, names_a_type, no_part, enum_at_most}

-- ---- untyped, Narrowed: the row of texts, of members or of items without a type

abbrev pub untyped_shape : RowName → Bool
untyped_shape untyped_texts = true
untyped_shape untyped_members = true
untyped_shape untyped_items = true
untyped_shape _ = false

-- ---- values

abbrev pub is_the_null : Value → Bool
is_the_null null = true
is_the_null _ = false

abbrev pub is_the_text : Value → Bool
is_the_text (text s) = true
is_the_text _ = false

abbrev pub is_the_boolean : Value → Bool
is_the_boolean (value.boolean b) = true
is_the_boolean _ = false

abbrev pub is_the_number : Value → Bool
is_the_number (number z) = true
is_the_number _ = false

abbrev pub is_list_or_members : Value → Bool
is_list_or_members (list xs) = true
is_list_or_members (value.object ms) = true
is_list_or_members _ = false

-- ---- oneOf, and anyOf that is converted as oneOf

-- option, external, adjacent, internal, the only member, untagged, in this order
pub data Choice : Type 0 where
  by_option : Choice
  by_external : Choice
  by_adjacent : List ℕ → Choice
  by_internal : Choice
  by_only : Choice
  by_untagged : Choice

abbrev pub only_or_untagged : List Schema → Choice
only_or_untagged (s ∷ []) = by_only
only_or_untagged _ = by_untagged

abbrev pub adjacent_or : Choice → Option AdjacentShape → Choice
adjacent_or c None = c
adjacent_or c (Some a) = by_adjacent a.tag

abbrev pub choice : List Schema → Choice
choice ss =
    if is_some (option_shape ss) then by_option
    else if is_some (external_shape ss) then by_external
    else adjacent_or (if is_some (internal_shape ss) then by_internal else only_or_untagged ss) (adjacent_shape ss)

-- members with their keyword
pub data Chosen : Type 0 where
  none_chosen : Chosen
  any_option : List Schema → Chosen
  as_one_of : Step → List Schema → Chosen

-- anyOf: empty is never; an option; where `exclusive` says yes as oneOf; else untagged
abbrev pub chosen_any : Document → List Schema → Chosen
chosen_any d [] = none_chosen
chosen_any d (s ∷ ss) = if is_some (option_shape (s ∷ ss)) then any_option (s ∷ ss) else if exclusive d (s ∷ ss) then as_one_of (codes "anyOf") (s ∷ ss) else none_chosen

-- of the one subschema keyword
abbrev pub chosen : Document → Same → Chosen
chosen d (same_value no_list (the_list ss) no_list no_schema false) = chosen_any d (schema_list ss)
chosen d (same_value no_list no_list (the_list ss) no_schema false) = as_one_of (codes "oneOf") (schema_list ss)
chosen d _ = none_chosen

-- ---- null, Widened: any of six

abbrev pub lists_null : Option (List Value) → Bool
lists_null None = false
lists_null (Some vs) = list_any is_the_null vs

abbrev pub lists_no_null : Option (List Value) → Bool
lists_no_null None = false
lists_no_null (Some vs) = not (list_any is_the_null vs)

abbrev pub more_than_one : List Bool → Bool
more_than_one [] = false
more_than_one (true ∷ bs) = list_any (λ b. b) bs
more_than_one (false ∷ bs) = more_than_one bs

-- the parts of a schema, each of one keyword or more
abbrev pub parts_that_stand : Plain → Same → Lists → Named → List Bool
parts_that_stand p ss ls ns =
    is_some p.types ∷ is_some p.const_value ∷ is_some p.enum_values ∷ is_some p.format ∷ is_some p.numbers ∷ is_some p.texts ∷ is_some p.reference
    ∷ not (without_same ss) ∷ not (without_lists ls) ∷ not (without_named ns) ∷ []

abbrev pub empty_values : Option (List Value) → Bool
empty_values (Some []) = true
empty_values _ = false

abbrev pub empty_types : Option Types → Bool
empty_types (Some (many_types [])) = true
empty_types _ = false

-- a null member that has more than one keyword or an empty list
abbrev pub is_odd_null_member : Schema → Bool
is_odd_null_member (boolean b) = false
is_odd_null_member (object p ss ls ns) = is_null_schema (object p ss ls ns) && (more_than_one (parts_that_stand p ss ls ns) || empty_types p.types || empty_values p.enum_values)

abbrev pub other_is_null_free : Document → Option Schema → Bool
other_is_null_free d None = true
other_is_null_free d (Some s) = null_free d s

abbrev pub two_or_more : List Schema → Bool
two_or_more (s ∷ t ∷ ss) = true
two_or_more _ = false

abbrev pub two_nulls : List Schema → Bool
two_nulls ss = two_or_more (filter is_null_schema ss)

abbrev pub option_nulls : Document → Chosen → Bool
option_nulls d none_chosen = false
option_nulls d (any_option ss) = list_any is_odd_null_member ss
option_nulls d (as_one_of k ss) = is_some (option_shape ss) && (list_any is_odd_null_member ss || two_nulls ss || not (other_is_null_free d (option_shape ss)))

-- ---- integer, by the range that the schema admits and that of the type

-- some number of the first range is outside the second
abbrev pub has_one_outside : Range → Range → Bool
has_one_outside x y = not (int_lt x.greatest x.least) && (not (int_le y.least x.least) || not (int_le x.greatest y.greatest))

abbrev pub above_one : Option ℕ → Bool
above_one (Some (suc (suc m))) = true
above_one _ = false

abbrev pub multiple_above_one : Option Numbers → Bool
multiple_above_one None = false
multiple_above_one (Some n) = above_one n.multiple_of

-- Widened where the type has an i64 number that isn't within bounds and format, or a multiple above 1 stands
abbrev pub integer_widened : Plain → Bool
integer_widened p = has_one_outside (in_i64 (range_of_plain p)) (admitted_range p) || multiple_above_one p.numbers

-- Narrowed where one within them isn't of the type
abbrev pub integer_narrowed : Plain → Bool
integer_narrowed p = has_one_outside (admitted_range p) (in_i64 (range_of_plain p))

-- ---- string

-- one of the six formats
abbrev pub has_string_format : Plain → Bool
has_string_format p = is_some (option_and_then format_of p.format)

abbrev pub string_keywords_stand : Schema → Bool
string_keywords_stand (boolean b) = false
string_keywords_stand (object p ss ls ns) = is_some p.texts

abbrev pub has_values : Schema → Bool
has_values (boolean b) = false
has_values (object p ss ls ns) = is_some p.enum_values || is_some p.const_value

-- ---- array: the row on Vec and Set of the array row

abbrev pub above_none : Option ℕ → Bool
above_none None = false
above_none (Some zero) = false
above_none (Some (suc n)) = true

abbrev pub is_unique : Option Bool → Bool
is_unique None = false
is_unique (Some b) = b

-- sizes both n, n above 0
abbrev pub one_size_above_none : Option ℕ → Option ℕ → Bool
one_size_above_none (Some (suc n)) (Some m) = nat_eq (suc n) m
one_size_above_none _ _ = false

abbrev pub is_of_one_size : ListRules → MaybeSchema → Bool
is_of_one_size c contains = is_none c.unique_items && not (is_given contains) && one_size_above_none c.min_items c.max_items

abbrev pub is_one_or_absent : Places → Bool
is_one_or_absent no_items = true
is_one_or_absent (each_item s) = true
is_one_or_absent (by_place ss) = false

abbrev pub is_vec_or_set : Places → MaybeSchema → ListRules → Bool
is_vec_or_set places contains rules = not (is_of_one_size rules contains) && is_one_or_absent places && not (is_given contains)

abbrev pub list_shape : Lists → Bool
list_shape no_lists = false
list_shape (lists places rest contains rules) = is_vec_or_set places contains rules && (above_none rules.min_items || is_some rules.max_items || is_unique rules.unique_items)

-- ---- open-branch, at the member

abbrev pub is_open : Option ObjectShape → Bool
is_open None = false
is_open (Some o) = not o.closed

abbrev pub open_member : Schema → Bool
open_member s = is_open (object_shape s)

-- ---- mixed-branches, tag-alone

abbrev pub says_closed : Option Bool → Bool
says_closed None = false
says_closed (Some b) = b

abbrev pub closed_member : Schema → Bool
closed_member s = says_closed (closedness (members_of s))

abbrev pub closed_and_open : List Schema → Bool
closed_and_open ss = list_any closed_member ss && list_any (λ s. not (closed_member s)) ss

-- no property but the tag
abbrev pub tag_alone : List ℕ → Schema → Bool
tag_alone tag s = list_all (λ n. bytes_eq tag n) (names_of (props_of (members_of s)))

abbrev pub mixed_choice : List Schema → Choice → Bool
mixed_choice ss (by_adjacent tag) = closed_and_open ss
mixed_choice ss by_internal = closed_and_open ss
mixed_choice ss _ = false

abbrev pub tag_alone_choice : List Schema → Choice → Bool
tag_alone_choice ss (by_adjacent tag) = not (list_any closed_member ss) && list_any (tag_alone tag) ss
tag_alone_choice ss _ = false

abbrev pub mixed_chosen : Chosen → Bool
mixed_chosen (as_one_of k ss) = mixed_choice ss (choice ss)
mixed_chosen _ = false

abbrev pub tag_alone_chosen : Chosen → Bool
tag_alone_chosen (as_one_of k ss) = tag_alone_choice ss (choice ss)
tag_alone_chosen _ = false

-- ---- boolean

abbrev pub lacks_one : List Value → Bool
lacks_one vs = not (is_listed (value.boolean true) vs && is_listed (value.boolean false) vs)

abbrev pub lacks_a_boolean : Option (List Value) → Bool
lacks_a_boolean None = false
lacks_a_boolean (Some vs) = lacks_one vs

-- values that a list alone converts to bool: one or more, all booleans; where nulls stand too, the schema that it makes is the one
abbrev pub listed_booleans : Option (List Value) → Bool
listed_booleans (Some (v ∷ vs)) = list_all is_the_boolean (v ∷ vs)
listed_booleans _ = false

-- ---- overlap

abbrev pub is_untagged : Choice → Bool
is_untagged by_untagged = true
is_untagged _ = false

abbrev pub overlap_chosen : Document → Chosen → Bool
overlap_chosen d (as_one_of k ss) = is_untagged (choice ss) && not (exclusive d ss)
overlap_chosen d _ = false

-- ---- counts, names

abbrev pub has_counts : Named → Bool
has_counts no_named = false
has_counts (named props patterns rest names rules) = above_none rules.min_properties || is_some rules.max_properties

-- the cases of the object row, the first that fits
pub data ObjectRow : Type 0 where
  a_map : ObjectRow
  a_pattern_map : ObjectRow
  a_struct : ObjectRow

abbrev pub none_of : Properties → Bool
none_of no_properties = true
none_of (property k s ps) = false

abbrev pub none_required : List (List ℕ) → Bool
none_required [] = true
none_required (n ∷ ns) = false

abbrev pub refuses_others : MaybeSchema → Bool
refuses_others (the_schema (boolean false)) = true
refuses_others _ = false

abbrev pub absent_or_false : MaybeSchema → Bool
absent_or_false no_schema = true
absent_or_false (the_schema s) = refuses_others (the_schema s)

abbrev pub all_like : Schema → Properties → Bool
all_like s no_properties = true
all_like s (property k t ps) = same_schemas t s && all_like s ps

-- at least one pattern, all pattern schemas the same
abbrev pub alike : Properties → Bool
alike no_properties = false
alike (property k s ps) = all_like s ps

abbrev pub object_row : Properties → Properties → MaybeSchema → MaybeSchema → MemberRules → ObjectRow
object_row props patterns rest names rules =
    if none_of props && none_required rules.required && none_of patterns && not (refuses_others rest) then a_map
    else if none_of props && none_required rules.required && not (is_given names) && absent_or_false rest && alike patterns then a_pattern_map
    else a_struct

abbrev pub names_widened_by : ObjectRow → Properties → MaybeSchema → Bool
names_widened_by a_struct patterns names = is_given names || not (none_of patterns)
names_widened_by _ patterns names = false

abbrev pub names_narrowed_by : ObjectRow → Properties → MaybeSchema → Bool
names_narrowed_by a_struct patterns rest = not (none_of patterns)
names_narrowed_by a_pattern_map patterns rest = not (is_given rest)
names_narrowed_by a_map patterns rest = false

abbrev pub names_widened : Named → Bool
names_widened no_named = false
names_widened (named props patterns rest names rules) = names_widened_by (object_row props patterns rest names rules) patterns names

abbrev pub names_narrowed : Named → Bool
names_narrowed no_named = false
names_narrowed (named props patterns rest names rules) = names_narrowed_by (object_row props patterns rest names rules) patterns rest

-- ---- not

abbrev pub values_of : Option (List Value) → List Value
values_of None = []
values_of (Some vs) = vs

-- all texts, all booleans or all whole numbers, one or more
abbrev pub of_one_kind : List Value → Bool
of_one_kind [] = false
of_one_kind (v ∷ vs) = list_all is_the_text (v ∷ vs) || list_all is_the_boolean (v ∷ vs) || list_all is_the_number (v ∷ vs)

-- one type with `enum`, none of whose values are lists or members; or `enum` alone
abbrev pub denied_schema : Schema → Bool
denied_schema (boolean b) = false
denied_schema (object p ss ls ns) =
    (names_a_type p.types && is_some p.enum_values && not (list_any is_list_or_members (values_of p.enum_values)))
    || (is_none p.types && is_some p.enum_values && enum_at_most p ss ls ns && of_one_kind (values_of p.enum_values))

abbrev pub deny_shape : Same → Bool
deny_shape (same_value no_list no_list no_list (the_schema s) false) = denied_schema s
deny_shape _ = false

-- ---- at the schema

module _ (d : Document) (p : Plain) (ss : Same) (ls : Lists) (ns : Named) where
  abbrev pub null_shape : RowName → Bool
  null_shape null_and_a_type = is_some p.const_value || is_some p.reference || not (without_same ss) || lists_no_null p.enum_values
  null_shape text_list = lists_null p.enum_values
  null_shape one_subschema_keyword = option_nulls d (chosen d ss)
  null_shape _ = false

  -- const, Widened: the row of a constant alone
  abbrev pub const_shape : RowName → Bool
  const_shape lone_constant = true
  const_shape _ = false

  abbrev pub integer_shape : Way → RowName → Bool
  integer_shape widened integer_type = integer_widened p
  integer_shape narrowed integer_type = integer_narrowed p
  integer_shape w _ = false

  abbrev pub string_shape : RowName → Bool
  string_shape text_type = has_string_format p && is_some p.texts
  string_shape untyped_texts = has_string_format p && is_some p.texts
  string_shape text_list = has_string_format p
  string_shape lone_text = has_string_format p
  string_shape _ = false

  abbrev pub array_shape : RowName → Bool
  array_shape array_type = list_shape ls
  array_shape untyped_items = list_shape ls
  array_shape _ = false

  abbrev pub mixed_shape : RowName → Bool
  mixed_shape one_subschema_keyword = mixed_chosen (chosen d ss)
  mixed_shape _ = false

  abbrev pub tag_alone_shape : RowName → Bool
  tag_alone_shape one_subschema_keyword = tag_alone_chosen (chosen d ss)
  tag_alone_shape _ = false

  abbrev pub boolean_shape : RowName → Bool
  boolean_shape boolean_type = lacks_a_boolean p.enum_values
  boolean_shape lone_list = listed_booleans p.enum_values && lacks_a_boolean p.enum_values
  boolean_shape _ = false

  -- type, Widened: one keyword of subschemas beside a type
  abbrev pub type_shape : RowName → Bool
  type_shape one_subschema_keyword = is_some p.types
  type_shape _ = false

  abbrev pub overlap_shape : RowName → Bool
  overlap_shape one_subschema_keyword = overlap_chosen d (chosen d ss)
  overlap_shape _ = false

  abbrev pub counts_shape : RowName → Bool
  counts_shape object_type = has_counts ns
  counts_shape untyped_members = has_counts ns
  counts_shape _ = false

  abbrev pub names_shape : Way → RowName → Bool
  names_shape widened object_type = names_widened ns
  names_shape widened untyped_members = names_widened ns
  names_shape narrowed object_type = names_narrowed ns
  names_shape narrowed untyped_members = names_narrowed ns
  names_shape w _ = false

  abbrev pub not_shape : RowName → Bool
  not_shape one_subschema_keyword = deny_shape ss
  not_shape _ = false

  -- each kind with its ways
  abbrev pub shape_by : RowName → Way → NoteKind → Bool
  shape_by row narrowed untyped_note = untyped_shape row
  shape_by row widened null_note = null_shape row
  shape_by row widened const_note = const_shape row
  shape_by row w integer_note = integer_shape w row
  shape_by row widened string_note = string_shape row
  shape_by row widened array_note = array_shape row
  shape_by row narrowed mixed_branches_note = mixed_shape row
  shape_by row narrowed tag_alone_note = tag_alone_shape row
  shape_by row widened boolean_note = boolean_shape row
  shape_by row widened type_note = type_shape row
  shape_by row widened overlap_note = overlap_shape row
  shape_by row widened counts_note = counts_shape row
  shape_by row w names_note = names_shape w row
  shape_by row narrowed not_note = not_shape row
  shape_by row w k = false

abbrev pub has_own_shape : Document → Schema → Way → NoteKind → Bool
has_own_shape d (boolean b) w k = false
has_own_shape d (object p ss ls ns) w k = shape_by d p ss ls ns (taken d (object p ss ls ns)) w k

-- ---- at a member of an external shape, by the steps to it

abbrev pub member_shape : Way → NoteKind → Schema → Bool
member_shape narrowed open_branch_note s = open_member s
member_shape widened string_note s = has_values s && string_keywords_stand s
member_shape w k s = false

-- the members from place i on
abbrev pub some_member : Step → ℕ → Location → (Schema → Bool) → List Schema → Bool
some_member k i l f [] = false
some_member k i l f (s ∷ ss) = (same_place l (k ∷ place i ∷ []) && f s) || some_member k (suc i) l f ss

abbrev pub is_external : Choice → Bool
is_external by_external = true
is_external _ = false

abbrev pub external_member : Chosen → Location → (Schema → Bool) → Bool
external_member (as_one_of k ss) l f = is_external (choice ss) && some_member k 0 l f ss
external_member _ l f = false

abbrev pub is_row_of_subschemas : RowName → Bool
is_row_of_subschemas one_subschema_keyword = true
is_row_of_subschemas _ = false

abbrev pub has_member_shape : Document → Schema → Location → Way → NoteKind → Bool
has_member_shape d (boolean b) l w k = false
has_member_shape d (object p ss ls ns) l w k = is_row_of_subschemas (taken d (object p ss ls ns)) && external_member (chosen d ss) l (member_shape w k)

-- ---- both, by the steps from the schema to where the note stands

abbrev pub has_note_shape : Document → Schema → Location → Way → NoteKind → Bool
has_note_shape d s l w k = (same_place l [] && has_own_shape d s w k) || has_member_shape d s l w k
