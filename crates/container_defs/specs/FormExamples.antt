-- Worked examples of forms outside the reader of values: each beside one that is inside.
use Rattle.std.specs.Prelude.{◌≡◌, ℕ, List, [], ◌∷◌, Bool, true, false, None, codes}
use Prim.Native.String.{String}
use Rattle.token_trees.specs.Token.{Tok}
use Rattle.syntax_trees.specs.Syntax.{TyD, ty_tuple, end_tys}
use Rattle.syntax_trees.specs.Item.{FieldD, named_fields, unnamed_fields, unit_fields, VariantD, param_ty, union_body, ItemD}
use Rattle.attr_parts.specs.declared.derive.Derive.TheVariants.{Deserialize}
use Rattle.json_value.specs.Value.{null}
use Rattle.model_defs.specs.Model.{TextRule, text_rule, allow_rule, ConversionsD}
use Rattle.container_defs.specs.Forms.{leaves_forms, are_inside}
use Rattle.container_defs.specs.ReaderExamples.{one, typed, text, option_of, vec_of, map_of, and_says, optional_attributes}
use Rattle.container_defs.specs.Told.{itself, private, read_by}
use Rattle.container_defs.specs.Written.{at, w, eq, str, comma, list, says, flag, plain, ty, field, nameless, variant, item, names, places, nothing, variants, ty_of, words}

abbrev no_rule : TextRule
no_rule = record { least = None; most = None; all = []; any = [] }

-- the table of the examples: a rule for texts on `R`, one for values on `A`, two on `B`, and one default
abbrev table : ConversionsD
table = record {
  constraints =
      record { item = codes "R"; rule = text_rule no_rule }
      ∷ record { item = codes "A"; rule = allow_rule [] }
      ∷ record { item = codes "B"; rule = allow_rule [] }
      ∷ record { item = codes "B"; rule = allow_rule [] }
      ∷ [];
  defaults = null ∷ [];
}

abbrev items : List (List ℕ)
items = codes "T" ∷ codes "R" ∷ codes "A" ∷ codes "B" ∷ codes "N" ∷ codes "D" ∷ codes "D" ∷ []

abbrev pub is_left : ItemD → Bool
is_left i = leaves_forms items table (read_by Deserialize i)

-- a field of a struct
abbrev in_struct : FieldD → Bool
in_struct f = is_left (one f)

abbrev in_structs : List FieldD → Bool
in_structs fs = is_left (item (names fs) [])

abbrev alone : VariantD → Bool
alone v = is_left (item (variants (v ∷ [])) [])

abbrev item_named : String → ItemD → ItemD
item_named x i = record i { name = plain x 92 }

abbrev converts : String → TyD → List Tok → ItemD
converts x t ts = item_named x (item (places (typed t (nameless []) ∷ [])) ts)

abbrev condition_of : String → List Tok
condition_of x = and_says (flag "default") "skip_serializing_if" x

abbrev rest_of : FieldD
rest_of = typed (map_of text (ty "u8")) (field "a" (flag "flatten"))

pub record FormsOfItems : Type 0 where
  pub plain_struct : in_struct (field "a" []) ≡ false
  pub a_union : is_left (item (union_body [] (at 93)) []) ≡ true
  pub with_parameters : is_left (record (item (names []) []) { params = param_ty (plain "A" 94) [] ∷ [] }) ≡ true
  pub remote : is_left (item (names []) (says "remote" "R")) ≡ true
  pub from : is_left (item (names []) (says "from" "R")) ≡ true
  pub into : is_left (item (names []) (says "into" "R")) ≡ true
  pub bound : is_left (item (names []) (says "bound" "")) ≡ true
  pub container_default : is_left (item (names []) (flag "default")) ≡ true
  pub tag_on_a_struct : is_left (item (names []) (says "tag" "t")) ≡ true
  pub identifier : is_left (item (variants []) (flag "field_identifier")) ≡ true
  pub clear_with_names : is_left (item (names (field "a" [] ∷ [])) (flag "transparent")) ≡ true
  pub clear : is_left (item (places (nameless [] ∷ [])) (flag "transparent")) ≡ false
  pub named_twice : is_left (item_named "D" (item (names []) [])) ≡ true
  pub a_tuple : is_left (item (places (nameless [] ∷ nameless [] ∷ [])) []) ≡ true
  pub a_unit : is_left (item nothing []) ≡ true
  pub no_variants : is_left (item (variants []) []) ≡ false

pub record FormsOfRules : Type 0 where
  pub fits : is_left (converts "A" (ty "u8") (says "try_from" "u8")) ≡ false
  pub other_type : is_left (converts "A" (ty "u8") (says "try_from" "i8")) ≡ true
  pub no_constraint : is_left (converts "N" (ty "u8") (says "try_from" "u8")) ≡ true
  pub two_constraints : is_left (converts "B" (ty "u8") (says "try_from" "u8")) ≡ true
  pub on_names : is_left (item_named "A" (item (names (field "a" [] ∷ [])) (says "try_from" "u8"))) ≡ true
  pub text : is_left (converts "R" text (says "try_from" "::std::string::String")) ≡ false
  pub no_text : is_left (converts "R" (ty "u8") (says "try_from" "u8")) ≡ true

pub record FormsOfVariants : Type 0 where
  pub plain_variant : alone (variant "V" (unnamed_fields (nameless [] ∷ [])) []) ≡ false
  pub other : alone (variant "V" unit_fields (flag "other")) ≡ true
  pub untagged : alone (variant "V" unit_fields (flag "untagged")) ≡ true
  pub skip : alone (variant "V" unit_fields (flag "skip_serializing")) ≡ true
  pub bound : alone (variant "V" unit_fields (says "bound" "")) ≡ true
  pub serialize_with : alone (variant "V" unit_fields (says "serialize_with" "f")) ≡ true
  pub deserialize_with : alone (variant "V" unit_fields (says "deserialize_with" "typify_present::some")) ≡ true
  pub with_module : alone (variant "V" unit_fields (says "with" "m")) ≡ true
  pub newtype_beside_tag : is_left (item (variants (variant "V" (unnamed_fields (nameless [] ∷ [])) [] ∷ [])) (says "tag" "t")) ≡ true
  pub struct_beside_tag : is_left (item (variants (variant "V" (named_fields (field "a" [] ∷ [])) [] ∷ variant "W" unit_fields [] ∷ [])) (says "tag" "t")) ≡ false
  pub newtype_beside_content : is_left (item (variants (variant "V" (unnamed_fields (nameless [] ∷ [])) [] ∷ [])) (and_says (says "tag" "t") "content" "c")) ≡ false
  pub same_names : alone (variant "V" (named_fields (field "a" [] ∷ field "b" (says "rename" "a") ∷ [])) []) ≡ true
  pub flattened : alone (variant "V" (named_fields (rest_of ∷ [])) []) ≡ true

pub record FormsOfFields : Type 0 where
  pub getter : in_struct (field "a" (says "getter" "g")) ≡ true
  pub bound : in_struct (field "a" (says "bound" "")) ≡ true
  pub skip : in_struct (field "a" (flag "skip")) ≡ true
  pub skip_serializing : in_struct (field "a" (flag "skip_serializing")) ≡ true
  pub skip_deserializing : in_struct (field "a" (flag "skip_deserializing")) ≡ true
  pub with_module : in_struct (field "a" (says "with" "m")) ≡ true
  pub serialize_with : in_struct (field "a" (says "serialize_with" "f")) ≡ true
  pub deserialize_with : in_struct (field "a" (says "deserialize_with" "f")) ≡ true
  pub whole : in_struct (field "a" (says "deserialize_with" "typify_present::whole")) ≡ false
  pub some : in_struct (typed (option_of (ty "u8")) (field "a" optional_attributes)) ≡ false
  pub some_elsewhere : in_struct (field "a" (says "deserialize_with" "typify_present::some")) ≡ true
  pub whole_with_default : in_struct (field "a" (and_says (says "deserialize_with" "typify_present::whole") "default" "typify_defaults::d0")) ≡ true
  pub stated : in_struct (field "a" (says "default" "typify_defaults::d0")) ≡ false
  pub not_in_the_table : in_struct (field "a" (says "default" "typify_defaults::d1")) ≡ true
  pub other_default : in_struct (field "a" (says "default" "f")) ≡ true
  pub option : in_struct (typed (option_of (ty "u8")) (field "a" (condition_of "::std::option::Option::is_none"))) ≡ false
  pub list_of : in_struct (typed (vec_of (ty "u8")) (field "a" (condition_of "::std::vec::Vec::is_empty"))) ≡ false
  pub map : in_struct (typed (map_of (ty "u8") (ty "u8")) (field "a" (condition_of "::std::collections::HashMap::is_empty"))) ≡ false
  pub other_condition : in_struct (typed (vec_of (ty "u8")) (field "a" (condition_of "::std::option::Option::is_none"))) ≡ true
  pub no_type_for_it : in_struct (field "a" (condition_of "::std::vec::Vec::is_empty")) ≡ true
  pub default_alone : in_struct (typed (vec_of (ty "u8")) (field "a" (flag "default"))) ≡ true
  pub condition_alone : in_struct (typed (vec_of (ty "u8")) (field "a" (says "skip_serializing_if" "::std::vec::Vec::is_empty"))) ≡ true
  pub unknown_condition : in_struct (typed (vec_of (ty "u8")) (field "a" (condition_of "f"))) ≡ true
  pub nameless_default : is_left (item (places (nameless (says "default" "typify_defaults::d0") ∷ [])) []) ≡ true
  pub nameless_whole : is_left (item (places (nameless (says "deserialize_with" "typify_present::whole") ∷ [])) []) ≡ true
  pub an_item : in_struct (typed (ty "N") (field "a" [])) ≡ false
  pub no_item : in_struct (typed (ty "M") (field "a" [])) ≡ true
  pub inside : in_struct (typed (vec_of (ty "M")) (field "a" [])) ≡ true
  pub a_unit : in_struct (typed (ty_tuple end_tys) (field "a" [])) ≡ false
  pub no_type : in_struct (typed (ty_of "a" "b" "c" []) (field "a" [])) ≡ true

pub record FormsOfRests : Type 0 where
  pub a_rest : in_struct rest_of ≡ false
  pub closed : is_left (item (names (rest_of ∷ [])) (flag "deny_unknown_fields")) ≡ true
  pub two : in_structs (rest_of ∷ typed (map_of text (ty "u8")) (field "b" (flag "flatten")) ∷ []) ≡ true
  pub no_map : in_struct (field "a" (flag "flatten")) ≡ true
  pub other_keys : in_struct (typed (map_of (ty "u8") (ty "u8")) (field "a" (flag "flatten"))) ≡ true
  pub with_helper : in_struct (typed (map_of text (ty "u8")) (field "a" (w "flatten" 10 ∷ comma 11 ∷ says "deserialize_with" "typify_present::whole"))) ≡ true
  pub beside_one : in_structs (rest_of ∷ field "b" [] ∷ []) ≡ false
  pub beside_unread : in_structs (rest_of ∷ field "b" (w "rename" 1 ∷ list (w "serialize" 2 ∷ eq 3 ∷ str "c" 4 ∷ []) 5 ∷ []) ∷ []) ≡ true
  pub unread_alone : in_struct (field "b" (w "rename" 1 ∷ list (w "serialize" 2 ∷ eq 3 ∷ str "c" 4 ∷ []) 5 ∷ [])) ≡ false
  pub one_name_twice : in_structs (field "a" [] ∷ field "b" (says "rename" "a") ∷ []) ≡ true

-- `T` holds an `N`, which holds a `u8`
abbrev holder : ItemD
holder = one (typed (ty "N") (field "a" []))

abbrev held : ItemD
held = item_named "N" (one (field "a" []))

abbrev inside : List ItemD → Bool
inside is = are_inside words itself itself private Deserialize table is

pub record FormsOfTables : Type 0 where
  pub no_items : inside [] ≡ true
  pub both : inside (holder ∷ held ∷ []) ≡ true
  pub one_alone : inside (holder ∷ []) ≡ false
  pub one_twice : inside (held ∷ held ∷ []) ≡ false
