-- Worked examples: values read as documents, what has no reading, and where schemas stand.
use Rattle.std.specs.Prelude.{◌≡◌, pos, [], ◌∷◌, true, false, Option, Some, None, option_map, option_and_then, codes}
use Rattle.json_value.specs.Value.{Value, null, fraction}
use Rattle.schema_defs.specs.declared.InstanceType.TheVariants.{Null, Text}
use Rattle.schema_defs.specs.declared.Setting.TheVariants.{Strict}
use Rattle.schema_defs.specs.Location.{Location, location_text, place, unescaped}
use Rattle.schema_defs.specs.Schema.{Schema, Plain, one_type, many_types, boolean, object, no_same, same_value, no_lists, no_named, named, no_schema, the_schema, no_list, no_properties, property, Document}
use Rattle.schema_defs.specs.Admits.{target_location}
use Rattle.schema_defs.specs.Read.{document_of}
use Rattle.schema_defs.specs.Children.{schema_at}
use Rattle.schema_defs.specs.Counts.{nodes, least_constraints}
use Rattle.schema_defs.specs.Build.{◌≔◌, str, num, minus, yes, no, obj, arr, typed, ref, IsRead, IsUnread}

-- a schema whose keywords are all absent
abbrev pub blank : Plain
blank = record { title = None; description = None; default = None; const_value = None; types = None; format = None; enum_values = None; numbers = None; texts = None; reference = None; walk = None }

abbrev pub only : Plain → Schema
only p = object p no_same no_lists no_named

abbrev pub alone : Schema → Document
alone s = record { setting = Strict; root = s; definitions = [] }

pub record ReadingExamples : Type 0 where
  pub booleans : document_of Strict no ≡ Some (alone (boolean false))
  pub empty : document_of Strict (obj []) ≡ Some (alone (only blank))
  pub unknown_members : document_of Strict (obj ("$id" ≔ num 3 ∷ "foo" ≔ null ∷ [])) ≡ Some (alone (only blank))
  pub annotations : document_of Strict (obj ("default" ≔ num 3 ∷ "title" ≔ str "a" ∷ [])) ≡ Some (alone (only (record blank { default = Some (num 3); title = Some (codes "a") })))
  pub one_name : document_of Strict (typed "string") ≡ Some (alone (only (record blank { types = Some (one_type Text) })))
  pub names : document_of Strict (obj ("type" ≔ arr (str "string" ∷ str "null" ∷ []) ∷ [])) ≡ Some (alone (only (record blank { types = Some (many_types (Text ∷ Null ∷ [])) })))
  pub bounds : document_of Strict (obj ("maximum" ≔ num 3 ∷ "multipleOf" ≔ num 2 ∷ []))
      ≡ Some (alone (only (record blank { numbers = Some (record { multiple_of = Some 2; maximum = Some (pos 3); exclusive_maximum = None; minimum = None; exclusive_minimum = None }) })))
  pub pattern : document_of Strict (obj ("pattern" ≔ str "a" ∷ [])) ≡ Some (alone (only (record blank { texts = Some (record { max_length = None; min_length = None; patterns = codes "a" ∷ [] }) })))
  pub not : document_of Strict (obj ("not" ≔ yes ∷ [])) ≡ Some (alone (object blank (same_value no_list no_list no_list (the_schema (boolean true)) false) no_lists no_named))
  pub conditional : document_of Strict (obj ("if" ≔ num 3 ∷ [])) ≡ Some (alone (object blank (same_value no_list no_list no_list no_schema true) no_lists no_named))
  pub required_names_rise : document_of Strict (obj ("required" ≔ arr (str "b" ∷ str "a" ∷ str "b" ∷ []) ∷ []))
      ≡ Some (alone (object blank no_same no_lists (named no_properties no_properties no_schema no_schema (record { max_properties = None; min_properties = None; required = codes "a" ∷ codes "b" ∷ [] }))))
  pub properties : document_of Strict (obj ("properties" ≔ obj ("type" ≔ no ∷ []) ∷ []))
      ≡ Some (alone (object blank no_same no_lists (named (property (codes "type") (boolean false) no_properties) no_properties no_schema no_schema (record { max_properties = None; min_properties = None; required = [] }))))
  pub definitions : document_of Strict (obj ("$defs" ≔ obj ("a" ≔ yes ∷ "c" ≔ yes ∷ []) ∷ "definitions" ≔ obj ("b" ≔ no ∷ []) ∷ []))
      ≡ Some (record {
        setting = Strict;
        root = only blank;
        definitions = record { name = codes "a"; under_defs = true; body = boolean true } ∷ record { name = codes "b"; under_defs = false; body = boolean false } ∷ record { name = codes "c"; under_defs = true; body = boolean true } ∷ [];
      })
  pub number_is_read : IsRead (typed "number")
  pub empty_lists : IsRead (obj ("anyOf" ≔ arr [] ∷ "enum" ≔ arr [] ∷ "oneOf" ≔ arr [] ∷ "type" ≔ arr [] ∷ []))
  pub any_condition : IsRead (obj ("else" ≔ arr [] ∷ "if" ≔ num 3 ∷ "then" ≔ fraction ∷ []))
  pub greatest_size : IsRead (obj ("maxItems" ≔ num 4294967295 ∷ []))
  pub no_definitions_below : IsRead (obj ("not" ≔ obj ("definitions" ≔ num 3 ∷ []) ∷ []))
  pub references_of_any_form : IsRead (ref "elsewhere.json")

pub record MalformedExamples : Type 0 where
  pub number : IsUnread (num 3)
  pub list : IsUnread (arr [])
  pub unknown_type : IsUnread (typed "int")
  pub unknown_type_in_a_list : IsUnread (obj ("type" ≔ arr (str "null" ∷ str "text" ∷ []) ∷ []))
  pub type_of_another_kind : IsUnread (obj ("type" ≔ null ∷ []))
  pub enum_of_another_kind : IsUnread (obj ("enum" ≔ str "a" ∷ []))
  pub title_of_another_kind : IsUnread (obj ("title" ≔ num 3 ∷ []))
  pub format_of_another_kind : IsUnread (obj ("format" ≔ yes ∷ []))
  pub negative_size : IsUnread (obj ("minLength" ≔ minus 1 ∷ []))
  pub size_too_great : IsUnread (obj ("maxProperties" ≔ num 4294967296 ∷ []))
  pub multiple_below_one : IsUnread (obj ("multipleOf" ≔ num 0 ∷ []))
  pub bound_of_another_kind : IsUnread (obj ("minimum" ≔ str "1" ∷ []))
  pub fraction_as_bound : IsUnread (obj ("minimum" ≔ fraction ∷ []))
  pub fraction_as_size : IsUnread (obj ("minItems" ≔ fraction ∷ []))
  pub fraction_in_a_constant : IsUnread (obj ("const" ≔ arr (fraction ∷ []) ∷ []))
  pub exclusive_by_a_boolean : IsUnread (obj ("exclusiveMinimum" ≔ yes ∷ []))
  pub empty_all_of : IsUnread (obj ("allOf" ≔ arr [] ∷ []))
  pub all_of_no_list : IsUnread (obj ("allOf" ≔ yes ∷ []))
  pub member_of_any_of : IsUnread (obj ("anyOf" ≔ arr (yes ∷ null ∷ []) ∷ []))
  pub not_a_schema : IsUnread (obj ("not" ≔ null ∷ []))
  pub items_no_schema : IsUnread (obj ("items" ≔ num 1 ∷ []))
  pub items_of_none : IsUnread (obj ("items" ≔ arr (num 1 ∷ []) ∷ []))
  pub unique_by_a_number : IsUnread (obj ("uniqueItems" ≔ num 1 ∷ []))
  pub required_no_list : IsUnread (obj ("required" ≔ yes ∷ []))
  pub required_no_text : IsUnread (obj ("required" ≔ arr (num 1 ∷ []) ∷ []))
  pub properties_no_object : IsUnread (obj ("properties" ≔ arr [] ∷ []))
  pub property_no_schema : IsUnread (obj ("properties" ≔ obj ("a" ≔ str "string" ∷ []) ∷ []))
  pub reference_no_text : IsUnread (obj ("$ref" ≔ num 1 ∷ []))
  pub deep_inside : IsUnread (obj ("properties" ≔ obj ("a" ≔ obj ("items" ≔ typed "date" ∷ []) ∷ []) ∷ []))
  pub definition_no_schema : IsUnread (obj ("definitions" ≔ obj ("a" ≔ null ∷ []) ∷ []))
  pub definitions_no_object : IsUnread (obj ("$defs" ≔ yes ∷ []))
  pub one_name_under_both : IsUnread (obj ("$defs" ≔ obj ("a" ≔ yes ∷ []) ∷ "definitions" ≔ obj ("a" ≔ yes ∷ []) ∷ []))

-- two definitions, and the root with a child by a name, one by a place and one by a keyword
abbrev pub located : Value
located = obj
    ("$defs" ≔ obj ("a/b" ≔ obj ("not" ≔ no ∷ []) ∷ [])
    ∷ "$ref" ≔ str "#/definitions/a~1b"
    ∷ "anyOf" ≔ arr (yes ∷ typed "null" ∷ [])
    ∷ "definitions" ≔ obj ("c" ≔ yes ∷ [])
    ∷ "properties" ≔ obj ("definitions" ≔ obj ("items" ≔ no ∷ []) ∷ [])
    ∷ [])

abbrev pub at : Location → Option Schema
at l = option_and_then (λ d. schema_at d l) (document_of Strict located)

pub record LocationExamples : Type 0 where
  pub root_text : location_text [] ≡ codes "#"
  pub text : location_text (codes "definitions" ∷ codes "Job" ∷ []) ≡ codes "#/definitions/Job"
  pub escaped_text : location_text (codes "a/b~" ∷ place 10 ∷ codes "" ∷ []) ≡ codes "#/a~1b~0/10/"
  pub other_tildes_stay : unescaped (codes "~~2~01~") ≡ codes "~~2~1~"
  pub definition : at (codes "$defs" ∷ codes "a/b" ∷ codes "not" ∷ []) ≡ Some (boolean false)
  pub by_the_keyword_where_it_stands : at (codes "definitions" ∷ codes "a/b" ∷ []) ≡ None
  pub place_in_a_list : at (codes "anyOf" ∷ place 1 ∷ []) ≡ Some (only (record blank { types = Some (one_type Null) }))
  pub place_past_the_list : at (codes "anyOf" ∷ place 2 ∷ []) ≡ None
  pub list_is_no_schema : at (codes "anyOf" ∷ []) ≡ None
  pub property : at (codes "properties" ∷ codes "definitions" ∷ codes "items" ∷ []) ≡ Some (boolean false)
  pub target_of_a_reference : option_and_then (λ d. target_location d (codes "#/definitions/a~1b")) (document_of Strict located) ≡ Some (codes "$defs" ∷ codes "a/b" ∷ [])
  pub target_of_the_root : option_and_then (λ d. target_location d (codes "#")) (document_of Strict located) ≡ Some []
  pub no_target : option_and_then (λ d. target_location d (codes "#/definitions/d")) (document_of Strict located) ≡ None
  pub nodes : option_map nodes (document_of Strict located) ≡ Some 8
  pub constraints : option_map least_constraints (at []) ≡ Some 3
  pub annotations_are_none : option_map (λ d. least_constraints d.root) (document_of Strict (obj ("default" ≔ num 3 ∷ "title" ≔ str "a" ∷ []))) ≡ Some 0
  pub empty_names_count : option_map (λ d. least_constraints d.root) (document_of Strict (obj ("$ref" ≔ str "#" ∷ "properties" ≔ obj [] ∷ []))) ≡ Some 2
