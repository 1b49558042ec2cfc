-- Worked documents: the named entries of the root and the definitions.
use Rattle.std.specs.Prelude.{◌≡◌, ℕ, ◌&&◌, ◌||◌, not, nat_le, List, [], ◌∷◌, length, Bool, true, false, Option, Some, None, option_map, codes}
use Prim.Native.String.{String}
use Rattle.std.specs.List.{list_all}
use Rattle.json_value.specs.Value.{Value}
use Rattle.schema_defs.specs.declared.Setting.TheVariants.{Strict}
use Rattle.schema_defs.specs.Read.{document_of}
use Rattle.schema_defs.specs.Build.{◌≔◌, str, num, yes, no, obj, arr, sample}
use Rattle.model_defs.specs.Model.{external_tag, internal_tag, adjacent_tag, text_rule}
use Rattle.entry_defs.specs.Entry.{u8, u32, i64, nonzero_u8, definition, State, required, optional, stated, Entry, boolean_entry, integer_entry, text_entry, unit_entry, option_entry, vec_entry, set_entry, tuple_entry, any_entry, reference, item, Entries, no_entries, entry_then, entry_again, entries, Shape, struct_shape, enum_shape, newtype_shape, Fields, no_fields, field_then, field_again, rest_field, Variants, no_variants, variant_then, Contents, unit_contents, newtype_contents, tuple_contents, struct_contents}
use Rattle.entry_defs.specs.Table.{TargetEntry, Table, root_of, items_of}
use Rattle.convert_defs.specs.Convert.{table_of}
use Rattle.naming_defs.specs.Names.{named_table, is_among}
use Rattle.convert_defs.specs.Worked.{constant_text, tag_alone, closed_object_schema, set_schema, no_members_schema, optional_text_schema, rest_schema, nullable_schema, pair_schema, nonzero_schema, greatest_schema, ruled_text_schema, external_schema, internal_schema, recursive_schema, renamed_schema, null_alone_schema, never_schema, stated_default_schema}

-- letters, digits and `_`, no digit first, and no word of Rust's own that the examples hold
abbrev pub is_start : ℕ → Bool
is_start c = (nat_le 65 c && nat_le c 90) || (nat_le 97 c && nat_le c 122) || (nat_le 95 c && nat_le c 95)

abbrev pub is_part : ℕ → Bool
is_part c = is_start c || (nat_le 48 c && nat_le c 57)

abbrev pub is_good : List ℕ → Bool
is_good [] = false
is_good (c ∷ cs) = is_start c && list_all is_part cs && not (is_among (c ∷ cs) (codes "type" ∷ codes "i64" ∷ codes "Self" ∷ codes "_" ∷ []))

abbrev pub named_of : Value → Option Table
named_of s = option_map (λ d. named_table is_good (table_of sample d 8)) (document_of Strict s)

abbrev pub root_named : Value → Option Entry
root_named s = option_map root_of (named_of s)

abbrev pub targets_named : Value → Option (List TargetEntry)
targets_named s = option_map (λ t. t.targets) (named_of s)

abbrev pub field : String → Entry → State → Fields → Fields
field n e s fs = field_then (codes n) (codes n) e s fs

abbrev pub variant : String → Contents → Variants → Variants
variant n c ws = variant_then (codes n) (codes n) c ws

abbrev pub the : String → Shape → Entry
the n h = item (codes n) h

abbrev pub defined : String → String → Shape → TargetEntry
defined k n h = record { target = definition (codes k); led_to = record { name = codes n; shape = h } }

abbrev pub whole : Entry
whole = integer_entry i64

abbrev pub word : Entry
word = integer_entry u32

abbrev pub pair : Entries → Contents
pair es = tuple_contents es

-- ---- one schema that several places share: it is converted once

abbrev pub integers : Value
integers = obj ("type" ≔ str "integer" ∷ [])

-- {"additionalProperties": {"properties": {"a": true}, "type": "object"}, "required": ["a", "b"], "type": "object"}
abbrev pub shared_members : Value
shared_members = obj ("additionalProperties" ≔ obj ("properties" ≔ obj ("a" ≔ yes ∷ []) ∷ "type" ≔ str "object" ∷ []) ∷ "required" ≔ arr (str "a" ∷ str "b" ∷ []) ∷ "type" ≔ str "object" ∷ [])

-- {"additionalProperties": false, "properties": {"c": integer}, "required": ["a", "b", "c"], "type": "object"}
abbrev pub shared_never : Value
shared_never = obj ("additionalProperties" ≔ no ∷ "properties" ≔ obj ("c" ≔ integers ∷ []) ∷ "required" ≔ arr (str "a" ∷ str "b" ∷ str "c" ∷ []) ∷ "type" ≔ str "object" ∷ [])

-- {"additionalItems": {"properties": {"a": true}, "type": "object"}, "items": [integer], "maxItems": 3, "minItems": 3, "type": "array"}
abbrev pub shared_places : Value
shared_places = obj ("additionalItems" ≔ obj ("properties" ≔ obj ("a" ≔ yes ∷ []) ∷ "type" ≔ str "object" ∷ []) ∷ "items" ≔ arr (integers ∷ []) ∷ "maxItems" ≔ num 3 ∷ "minItems" ≔ num 3 ∷ "type" ≔ str "array" ∷ [])

abbrev pub inner : Entry
inner = the "Type0" (struct_shape false (field "a" any_entry optional no_fields))

abbrev pub again : String → Fields → Fields
again n fs = field_again (codes n) (codes n) fs

abbrev pub items_named : Value → Option ℕ
items_named s = option_map (λ t. length (items_of t)) (named_of s)

pub record SharedEntries : Type 0 where
  pub members : root_named shared_members ≡ Some (the "Root" (struct_shape false (again "a" (again "b" (rest_field (codes "extra") inner)))))
  pub items_of_members : items_named shared_members ≡ Some 2
  pub never : root_named shared_never ≡ Some (the "Root" (struct_shape true (field "c" whole required (again "a" (field "b" (the "Type0" (enum_shape false external_tag no_variants)) required no_fields)))))
  pub items_of_never : items_named shared_never ≡ Some 2
  pub places : root_named shared_places ≡ Some (tuple_entry (entry_then whole (entry_again (entry_then inner no_entries))))
  pub items_of_places : items_named shared_places ≡ Some 1

pub record WorkedEntries : Type 0 where
  pub constant : root_named constant_text ≡ Some (the "Root" (enum_shape false external_tag (variant "a" unit_contents no_variants)))
  pub adjacent : root_named tag_alone ≡ Some (the "Root" (enum_shape false (adjacent_tag (codes "t") (codes "c")) (variant "x" (newtype_contents whole) (variant "y" unit_contents no_variants))))
  pub closed_object : root_named closed_object_schema ≡ Some (the "Root" (struct_shape true (field "id" whole required (field "name" text_entry required no_fields))))
  pub set : root_named set_schema ≡ Some (set_entry whole)
  pub no_members : root_named no_members_schema ≡ Some (the "Root" (struct_shape true no_fields))
  pub optional_text : root_named optional_text_schema ≡ Some (the "Root" (struct_shape false (field "s" text_entry optional no_fields)))
  pub a_rest : root_named rest_schema ≡ Some (the "Root" (struct_shape false (field "a" boolean_entry optional (rest_field (codes "extra") whole))))
  pub nullable : root_named nullable_schema ≡ Some (the "Root" (struct_shape false (field "s" (option_entry text_entry) required no_fields)))
  pub pair_of_integers : root_named pair_schema ≡ Some (tuple_entry (entries (whole ∷ integer_entry u8 ∷ [])))
  pub nonzero : root_named nonzero_schema ≡ Some (integer_entry nonzero_u8)
  pub by_greatest : root_named greatest_schema ≡ Some (integer_entry u8)
  pub ruled_text : root_named ruled_text_schema ≡ Some (the "Root" (newtype_shape text_entry (Some (text_rule (record { least = None; most = Some 1; all = codes "a" ∷ []; any = [] })))))
  pub external : root_named external_schema ≡ Some (the "Root" (enum_shape true external_tag
      (variant "Alpha" unit_contents
      (variant "Bravo" (struct_contents (field "beeBee" text_entry required (field "fooFoo" text_entry required no_fields)))
      (variant "Charlie" (newtype_contents (vec_entry word))
      (variant "Delta" (tuple_contents (entries (word ∷ text_entry ∷ [])))
      (variant "Echo" (tuple_contents (entries (option_entry text_entry ∷ text_entry ∷ text_entry ∷ []))) no_variants)))))))
  pub internal : root_named internal_schema ≡ Some (the "Root" (enum_shape true (internal_tag (codes "k")) (variant "a" unit_contents (variant "b" unit_contents no_variants))))
  pub a_reference : root_named recursive_schema ≡ Some (reference (definition (codes "A")))
  pub recursive : targets_named recursive_schema ≡ Some (defined "A" "A" (struct_shape false (field "next" (reference (definition (codes "A"))) optional no_fields)) ∷ [])
  pub renamed : root_named renamed_schema ≡ Some (the "Root" (struct_shape false
      (field_then (codes "field0") (codes "a b") (reference (definition (codes "X"))) required
      (field_then (codes "field1") (codes "type") (reference (definition (codes "i64"))) required no_fields))))
  pub named_first : targets_named renamed_schema ≡ Some (
      defined "PhantomData" "PhantomData" (newtype_shape text_entry None)
      ∷ defined "X" "X" (newtype_shape (reference (definition (codes "PhantomData"))) None)
      ∷ defined "i64" "Type0" (newtype_shape whole None) ∷ [])
  pub null_alone : root_named null_alone_schema ≡ Some unit_entry
  pub never : root_named never_schema ≡ Some (the "EmptyAnyOf" (enum_shape false external_tag no_variants))
  pub stated_default : root_named stated_default_schema ≡ Some (the "Root" (struct_shape false (field "n" whole (stated (num 7)) (field "t" (vec_entry text_entry) optional no_fields))))
