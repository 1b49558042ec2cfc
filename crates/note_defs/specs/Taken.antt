-- The row of conversion that is taken of a schema: the first that fits. Annotations and definitions say nothing.
use Rattle.std.specs.Prelude.{ℕ, ◌&&◌, ◌||◌, not, nat_eq, ◌+◌, List, [], ◌∷◌, Bool, true, false, Option, Some, None, is_none, is_some, if◌then◌else◌}
use Rattle.std.specs.List.{list_all, list_any}
use Rattle.json_value.specs.Value.{Value, text}
use Rattle.schema_defs.specs.declared.InstanceType.{InstanceType}
use Rattle.schema_defs.specs.declared.InstanceType.TheVariants.{Null, Boolean, Object, Array, Number, Text, Integer}
use Rattle.schema_defs.specs.Schema.{Types, one_type, many_types, Plain, Schema, boolean, object, Same, no_same, same_value, Lists, Named, MaybeSchema, no_schema, the_schema, MaybeSchemas, no_list, the_list, Document}
use Rattle.schema_defs.specs.Admits.{target}
use Rattle.enum_defs.specs.Words.{same_type, has_type, without_same, without_lists, without_named, is_bare}

-- The rows of the table of conversion, in their order; `refused` is for if, then or else, and `no_row` where none fits.
pub data RowName : Type 0 where
  refused : RowName
  boolean_schema : RowName
  null_and_a_type : RowName
  text_type : RowName
  untyped_texts : RowName
  text_list : RowName
  lone_text : RowName
  integer_type : RowName
  boolean_type : RowName
  object_type : RowName
  untyped_members : RowName
  array_type : RowName
  untyped_items : RowName
  nothing_asked : RowName
  null_type : RowName
  lone_reference : RowName
  reference_of_its_type : RowName
  merged_reference : RowName
  typed_list : RowName
  lone_list : RowName
  one_subschema_keyword : RowName
  merged_subschemas : RowName
  lone_constant : RowName
  all_types : RowName
  one_listed_type : RowName
  listed_types : RowName
  no_row : RowName

-- ---- types

-- a list of exactly two types, with null
abbrev pub two_with_null : Option Types → Bool
two_with_null (Some (many_types (a ∷ b ∷ []))) = same_type Null a || same_type Null b
two_with_null _ = false

abbrev pub names_a_type : Option Types → Bool
names_a_type (Some (one_type k)) = true
names_a_type _ = false

abbrev pub lists_types : Option Types → Bool
lists_types (Some (many_types ks)) = true
lists_types _ = false

abbrev pub lists_one_type : Option Types → Bool
lists_one_type (Some (many_types (k ∷ []))) = true
lists_one_type _ = false

abbrev pub is_listed_type : Option Types → InstanceType → Bool
is_listed_type (Some (many_types ks)) k = list_any (same_type k) ks
is_listed_type _ k = false

abbrev pub lists_all_seven : Option Types → Bool
lists_all_seven o = list_all (is_listed_type o) (Null ∷ Boolean ∷ Object ∷ Array ∷ Number ∷ Text ∷ Integer ∷ [])

-- equal names, or equal lists in the same order
abbrev pub equal_lists : List InstanceType → List InstanceType → Bool
equal_lists [] [] = true
equal_lists (k ∷ ks) (l ∷ ls) = same_type k l && equal_lists ks ls
equal_lists _ _ = false

abbrev pub equal_types : Option Types → Option Types → Bool
equal_types (Some (one_type k)) (Some (one_type l)) = same_type k l
equal_types (Some (many_types ks)) (Some (many_types ls)) = equal_lists ks ls
equal_types _ _ = false

abbrev pub type_of : Option Schema → Option Types
type_of (Some (object p ss ls ns)) = p.types
type_of _ = None

abbrev pub type_of_target : Document → Option (List ℕ) → Option Types
type_of_target d None = None
type_of_target d (Some q) = type_of (target d q)

-- ---- subschemas

abbrev pub stands_list : MaybeSchemas → ℕ
stands_list no_list = 0
stands_list (the_list ss) = 1

abbrev pub stands_schema : MaybeSchema → ℕ
stands_schema no_schema = 0
stands_schema (the_schema s) = 1

abbrev pub conditional_stands : Same → Bool
conditional_stands no_same = false
conditional_stands (same_value all any one none conditional) = conditional

-- one of allOf, anyOf, oneOf and not, and no if, then or else
abbrev pub one_subschema : Same → Bool
one_subschema no_same = false
one_subschema (same_value all any one none conditional) = nat_eq (stands_list all + stands_list any + stands_list one + stands_schema none) 1 && not conditional

-- ---- constants

abbrev pub is_a_text : Option Value → Bool
is_a_text (Some (text s)) = true
is_a_text _ = false

-- ---- the rows

abbrev pub first_row : List (Bool × RowName) → RowName
first_row [] = no_row
first_row (x ∷ xs) = if x.0 then x.1 else first_row xs

module _ (p : Plain) (ss : Same) (ls : Lists) (ns : Named) where
  -- no keyword of numbers, texts, lists or members, no format
  abbrev pub no_part : Bool
  no_part = is_none p.format && is_none p.numbers && is_none p.texts && without_lists ls && without_named ns

  -- but for `type`, no keyword
  abbrev pub reference_at_most : Bool
  reference_at_most = is_none p.enum_values && is_none p.const_value && no_part && without_same ss

  abbrev pub enum_at_most : Bool
  enum_at_most = is_none p.const_value && is_none p.reference && no_part && without_same ss

  abbrev pub subschemas_at_most : Bool
  subschemas_at_most = is_none p.enum_values && is_none p.const_value && is_none p.reference && no_part

  -- no type, no keyword of numbers or texts, no format
  abbrev pub owners_at_most : Bool
  owners_at_most = is_none p.types && is_none p.format && is_none p.numbers && is_none p.texts && is_bare p ss

module _ (d : Document) (p : Plain) (ss : Same) (ls : Lists) (ns : Named) where
  abbrev pub rows : List (Bool × RowName)
  rows =
      (conditional_stands ss, refused)
      ∷ (two_with_null p.types, null_and_a_type)
      ∷ (has_type Text p.types && is_bare p ss, text_type)
      ∷ (is_none p.types && is_some p.texts && is_none p.numbers && is_bare p ss && without_lists ls && without_named ns, untyped_texts)
      ∷ (has_type Text p.types && is_some p.enum_values && is_none p.const_value && is_none p.reference && without_same ss, text_list)
      ∷ (is_a_text p.const_value && (is_none p.types || has_type Text p.types) && is_none p.reference && without_same ss, lone_text)
      ∷ (has_type Integer p.types && is_bare p ss, integer_type)
      ∷ (has_type Boolean p.types && is_none p.format && is_none p.const_value && is_none p.reference && without_same ss, boolean_type)
      ∷ (has_type Object p.types && is_none p.format && is_bare p ss, object_type)
      ∷ (owners_at_most p ss ls ns && without_lists ls && not (without_named ns), untyped_members)
      ∷ (has_type Array p.types && is_none p.format && is_bare p ss, array_type)
      ∷ (owners_at_most p ss ls ns && without_named ns && not (without_lists ls), untyped_items)
      ∷ (owners_at_most p ss ls ns && without_lists ls && without_named ns, nothing_asked)
      ∷ (has_type Null p.types && is_bare p ss, null_type)
      ∷ (is_some p.reference && is_none p.types && reference_at_most p ss ls ns, lone_reference)
      ∷ (is_some p.reference && equal_types p.types (type_of_target d p.reference) && reference_at_most p ss ls ns, reference_of_its_type)
      ∷ (is_some p.reference, merged_reference)
      ∷ (names_a_type p.types && is_some p.enum_values, typed_list)
      ∷ (is_some p.enum_values && is_none p.types && enum_at_most p ss ls ns, lone_list)
      ∷ (one_subschema ss && subschemas_at_most p ss ls ns, one_subschema_keyword)
      ∷ (not (without_same ss), merged_subschemas)
      ∷ (is_some p.const_value, lone_constant)
      ∷ (lists_all_seven p.types, all_types)
      ∷ (lists_one_type p.types, one_listed_type)
      -- of the types of the order, which `number` isn't among
      ∷ (lists_types p.types && is_bare p ss && not (is_listed_type p.types Number), listed_types)
      ∷ []

  abbrev pub row_taken : RowName
  row_taken = first_row rows

abbrev pub taken : Document → Schema → RowName
taken d (boolean b) = boolean_schema
taken d (object p ss ls ns) = row_taken d p ss ls ns
