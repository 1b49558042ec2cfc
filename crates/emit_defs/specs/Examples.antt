-- Small tables and what is emitted for them.
use Rattle.std.specs.Prelude.{◌≡◌, ℕ, List, [], ◌∷◌, ◌++◌, map, true, false, Option, Some, None, codes}
use Rattle.std.specs.List.{flat_map}
use Rattle.token_trees.specs.Token.{Tok, Name}
use Rattle.token_trees.specs.Text.{text_of}
use Rattle.syntax_trees.specs.Item.{MetaD, meta_path, meta_list, meta_value, FieldD, FieldsD, named_fields, unnamed_fields, unit_fields, VariantD, BodyD, struct_body, enum_body, union_body, ItemD}
use Rattle.syntax_printing.specs.Print.{sign, keyword, within_parens, within_brackets, within_braces, print_ty, print_path, print_name}
use Rattle.json_value.specs.Value as value
use Rattle.json_value.specs.Value.{Value, null, text}
use Rattle.schema_defs.specs.declared.Format.TheVariants.{Uuid}
use Rattle.model_defs.specs.Model.{external_tag, internal_tag, adjacent_tag, untagged, RuleD, text_rule, ConstraintD, FieldModel, BodyModel, struct_model, enum_model}
use Rattle.type_spellings.specs.Types.{type_of}
use Rattle.model_defs.specs.Types.{TypeModel}
use Rattle.entry_defs.specs.Entry.{u8, u32, i64, definition, required, optional, stated, Entry, boolean_entry, integer_entry, text_entry, native_entry, unit_entry, option_entry, vec_entry, set_entry, array_entry, reference, item, Shape, struct_shape, enum_shape, newtype_shape, field_then, field_again, rest_field, no_entries, entry_then, entry_again, tuple_entry, unit_contents, newtype_contents, tuple_contents, struct_contents, FieldEntry, entries, fields, fields_then, variants}
use Rattle.entry_defs.specs.Table.{TargetEntry, Table, root_of}
use Rattle.emit_defs.specs.Emission.{emission, models_of, type_outside}
use Rattle.entry_defs.specs.Sound.{IsSound}
use Rattle.emit_defs.specs.Formed.{IsFormed}
use Rattle.entry_defs.specs.Examples.{field, variant, open_struct, closed_struct, alone}

-- ---- the text of an item: for examples alone

abbrev pub meta_tokens : MetaD → List Tok
meta_tokens (meta_path p) = print_path p
meta_tokens (meta_list p ts at) = print_path p ++ (within_parens ts ∷ [])
meta_tokens (meta_value p ts) = print_path p ++ (sign 61 ∷ ts)

abbrev pub attribute_tokens : MetaD → List Tok
attribute_tokens m = sign 35 ∷ within_brackets (meta_tokens m) ∷ []

abbrev pub name_tokens : Option Name → List Tok
name_tokens None = []
name_tokens (Some n) = print_name n ∷ sign 58 ∷ []

abbrev pub field_tokens : FieldD → List Tok
field_tokens f = flat_map attribute_tokens f.attrs ++ name_tokens f.name ++ print_ty f.ty ++ (sign 44 ∷ [])

abbrev pub fields_tokens : FieldsD → List Tok
fields_tokens (named_fields fs) = within_braces (flat_map field_tokens fs) ∷ []
fields_tokens (unnamed_fields fs) = within_parens (flat_map field_tokens fs) ∷ []
fields_tokens unit_fields = []

abbrev pub struct_tokens : FieldsD → List Tok
struct_tokens (named_fields fs) = fields_tokens (named_fields fs)
struct_tokens (unnamed_fields fs) = fields_tokens (unnamed_fields fs) ++ (sign 59 ∷ [])
struct_tokens unit_fields = sign 59 ∷ []

abbrev pub variant_tokens : VariantD → List Tok
variant_tokens w = flat_map attribute_tokens w.attrs ++ (print_name w.name ∷ fields_tokens w.fields) ++ (sign 44 ∷ [])

abbrev pub body_tokens : Name → BodyD → List Tok
body_tokens n (struct_body fs at) = keyword (codes "struct") ∷ print_name n ∷ struct_tokens fs
body_tokens n (enum_body ws at) = keyword (codes "enum") ∷ print_name n ∷ within_braces (flat_map variant_tokens ws) ∷ []
body_tokens n (union_body fs at) = []

abbrev pub item_text : ItemD → List ℕ
item_text i = text_of (flat_map attribute_tokens i.attrs ++ body_tokens i.name i.body)

abbrev pub texts_of : Table → List (List ℕ)
texts_of t = map item_text (emission t (root_of t)).items

-- ---- the types in an item, as trees and as meant

abbrev pub fields_in : FieldsD → List FieldD
fields_in (named_fields fs) = fs
fields_in (unnamed_fields fs) = fs
fields_in unit_fields = []

abbrev pub trees_in : BodyD → List FieldD
trees_in (struct_body fs at) = fields_in fs
trees_in (enum_body ws at) = flat_map (λ w. fields_in w.fields) ws
trees_in (union_body fs at) = fs

abbrev pub models_in : BodyModel → List FieldModel
models_in (struct_model style fs) = fs
models_in (enum_model tag ws) = flat_map (λ w. w.fields) ws

abbrev pub tree_types : Table → List (List TypeModel)
tree_types t = map (λ i. map (λ f. type_of f.ty) (trees_in i.body)) (emission t (root_of t)).items

abbrev pub meant_types : Table → List (List TypeModel)
meant_types t = map (λ m. map (λ f. f.field_type) (models_in m.body)) (models_of t)

-- the trees spell the types that are meant
abbrev pub Spelled : Table → Type 0
Spelled t = (tree_types t ≡ meant_types t) × (type_of (emission t (root_of t)).root ≡ type_outside t (root_of t))

abbrev pub Prints : Table → List (List ℕ) → Type 0
Prints t ls = texts_of t ≡ ls

-- ---- tables

abbrev pub root_item : Shape → Table
root_item s = alone (item (codes "Root") s)

abbrev pub row_1 : Table
row_1 = root_item (closed_struct (field (codes "id") (integer_entry i64) required ∷ field (codes "name") text_entry required ∷ []))

abbrev pub row_3 : Table
row_3 = root_item (closed_struct [])

abbrev pub row_4 : Table
row_4 = root_item (open_struct (field (codes "s") text_entry optional ∷ []))

abbrev pub row_5 : Table
row_5 = root_item (open_struct (field (codes "s") (option_entry text_entry) required ∷ []))

abbrev pub renamed : List ℕ → FieldEntry → FieldEntry
renamed i f = record f { identifier = i }

abbrev pub defined : List ℕ → List ℕ → Shape → TargetEntry
defined k n s = record { target = definition k; led_to = record { name = n; shape = s } }

abbrev pub to : List ℕ → Entry
to k = reference (definition k)

abbrev pub row_18 : Table
row_18 = record {
  targets =
      defined (codes "PhantomData") (codes "PhantomData") (newtype_shape text_entry None)
      ∷ defined (codes "X") (codes "X") (newtype_shape (to (codes "PhantomData")) None)
      ∷ defined (codes "i64") (codes "Type0") (newtype_shape (integer_entry i64) None)
      ∷ [];
  trees = item (codes "Root") (open_struct (renamed (codes "field0") (field (codes "a b") (to (codes "X")) required) ∷ renamed (codes "field1") (field (codes "type") (to (codes "i64")) required) ∷ [])) ∷ [];
}

abbrev pub row_20 : Table
row_20 = record {
  targets =
      defined (codes "Job") (codes "Job") (enum_shape false (internal_tag (codes "kind")) (variants (variant (codes "idle") unit_contents ∷ variant (codes "copy") (struct_contents (fields (field (codes "from") text_entry required ∷ field (codes "to") text_entry required ∷ []))) ∷ [])))
      ∷ defined (codes "Owner") (codes "Owner") (open_struct (field (codes "id") (native_entry Uuid) required ∷ []))
      ∷ [];
  trees = item (codes "Config") (open_struct (
      field (codes "jobs") (vec_entry (to (codes "Job"))) required
      ∷ field (codes "limit") (option_entry (integer_entry u32)) optional
      ∷ field (codes "name") text_entry required
      ∷ field (codes "owner") (option_entry (to (codes "Owner"))) optional
      ∷ [])) ∷ [];
}

-- an item that uses itself by value, in a list, and under a rest; two that use one another
abbrev pub chain : Table
chain = record {
  targets =
      defined (codes "a") (codes "A") (struct_shape false (fields_then (field (codes "next") (to (codes "a")) optional ∷ field (codes "all") (vec_entry (to (codes "a"))) optional ∷ field (codes "other") (option_entry (to (codes "b"))) required ∷ []) (rest_field (codes "extra") (to (codes "a")))))
      ∷ defined (codes "b") (codes "B") (newtype_shape (option_entry (to (codes "a"))) None)
      ∷ [];
  trees = to (codes "b") ∷ [];
}

abbrev pub enums : Table
enums = root_item (enum_shape true external_tag (variants (
    variant (codes "a") unit_contents
    ∷ variant (codes "b") (newtype_contents (item (codes "Tagged") (enum_shape false (adjacent_tag (codes "t") (codes "c")) (variants (record { identifier = codes "Variant0"; name = codes "1"; contents = unit_contents } ∷ variant (codes "Y") (tuple_contents (entries (boolean_entry ∷ integer_entry u8 ∷ []))) ∷ [])))))
    ∷ variant (codes "c") (struct_contents (fields (field (codes "d") (item (codes "Bare") (enum_shape false untagged (variants (variant (codes "Variant0") (newtype_contents unit_entry) ∷ variant (codes "Variant1") unit_contents ∷ [])))) (stated null) ∷ field (codes "e") boolean_entry (stated (value.boolean true)) ∷ [])))
    ∷ [])))

abbrev pub lone_rule : RuleD
lone_rule = text_rule (record { least = Some 1; most = None; all = []; any = [] })

abbrev pub rules : Table
rules = root_item (closed_struct (field (codes "x") (item (codes "Short") (newtype_shape text_entry (Some lone_rule))) (stated (text (codes "z"))) ∷ field (codes "y") (set_entry (array_entry text_entry 12)) optional ∷ []))

-- a newtype that leads to an option, and one that doesn't since what it holds ends in `PhantomData`
abbrev pub leading : Table
leading = record {
  targets =
      defined (codes "PhantomData") (codes "PhantomData") (newtype_shape (option_entry text_entry) None)
      ∷ defined (codes "X") (codes "X") (newtype_shape (to (codes "PhantomData")) None)
      ∷ [];
  trees = item (codes "Root") (open_struct (
      field (codes "a") (to (codes "PhantomData")) required
      ∷ field (codes "b") (to (codes "X")) required
      ∷ field (codes "c") (to (codes "X")) optional
      ∷ [])) ∷ [];
}

-- fields and places of one entry: the item stands once
abbrev pub alike : Table
alike = root_item (struct_shape false (
    field_again (codes "a") (codes "a") (
    field_again (codes "b") (codes "b") (
    field_then (codes "c") (codes "c") (tuple_entry (entry_again (entry_then (item (codes "Inner") (open_struct [])) no_entries))) optional (
    rest_field (codes "extra") boolean_entry)))))

abbrev pub default_values : Table → List Value
default_values t = (emission t (root_of t)).conversions.defaults

abbrev pub constraints_of : Table → List ConstraintD
constraints_of t = (emission t (root_of t)).conversions.constraints

pub record Emitted : Type 0 where
  pub of_row_1 : Prints row_1 (codes "# [ serde ( deny_unknown_fields ) ] struct Root { id : i64 , name : :: std :: string :: String , }" ∷ [])
  pub of_row_3 : Prints row_3 (codes "# [ serde ( deny_unknown_fields ) ] struct Root { }" ∷ [])
  pub of_row_4 : Prints row_4 (codes "struct Root { # [ serde ( default , deserialize_with = \"typify_present::some\" , skip_serializing_if = \"::std::option::Option::is_none\" ) ] s : :: std :: option :: Option < :: std :: string :: String > , }" ∷ [])
  pub of_row_5 : Prints row_5 (codes "struct Root { # [ serde ( deserialize_with = \"typify_present::whole\" ) ] s : :: std :: option :: Option < :: std :: string :: String > , }" ∷ [])
  pub of_row_18 : Prints row_18 (
      codes "# [ serde ( transparent ) ] struct PhantomData ( :: std :: string :: String , ) ;"
      ∷ codes "struct X ( PhantomData , ) ;"
      ∷ codes "# [ serde ( transparent ) ] struct Type0 ( i64 , ) ;"
      ∷ codes "struct Root { # [ serde ( rename = \"a b\" ) ] field0 : X , # [ serde ( rename = \"type\" ) ] field1 : Type0 , }"
      ∷ [])
  pub of_row_20 : Prints row_20 (
      codes "# [ serde ( tag = \"kind\" ) ] enum Job { idle , copy { from : :: std :: string :: String , to : :: std :: string :: String , } , }"
      ∷ codes "struct Owner { id : :: uuid :: Uuid , }"
      ∷ codes "struct Config { jobs : :: std :: vec :: Vec < Job > , # [ serde ( default , skip_serializing_if = \"::std::option::Option::is_none\" ) ] limit : :: std :: option :: Option < u32 > , name : :: std :: string :: String , # [ serde ( default , skip_serializing_if = \"::std::option::Option::is_none\" ) ] owner : :: std :: option :: Option < Owner > , }"
      ∷ [])
  pub of_chain : Prints chain (
      codes "struct A { # [ serde ( default , deserialize_with = \"typify_present::some\" , skip_serializing_if = \"::std::option::Option::is_none\" ) ] next : :: std :: option :: Option < :: std :: boxed :: Box < A > > , # [ serde ( default , skip_serializing_if = \"::std::vec::Vec::is_empty\" ) ] all : :: std :: vec :: Vec < A > , # [ serde ( deserialize_with = \"typify_present::whole\" ) ] other : :: std :: option :: Option < :: std :: boxed :: Box < B > > , # [ serde ( flatten ) ] extra : :: std :: collections :: HashMap < :: std :: string :: String , A > , }"
      ∷ codes "# [ serde ( transparent ) ] struct B ( :: std :: option :: Option < :: std :: boxed :: Box < A > > , ) ;"
      ∷ [])
  pub of_enums : Prints enums (
      codes "# [ serde ( deny_unknown_fields ) ] enum Root { a , b ( Tagged , ) , c { # [ serde ( default = \"typify_defaults::d0\" ) ] d : Bare , # [ serde ( default = \"typify_defaults::d1\" ) ] e : bool , } , }"
      ∷ codes "# [ serde ( tag = \"t\" , content = \"c\" ) ] enum Tagged { # [ serde ( rename = \"1\" ) ] Variant0 , Y ( bool , u8 , ) , }"
      ∷ codes "# [ serde ( untagged ) ] enum Bare { Variant0 ( ( ) , ) , Variant1 , }"
      ∷ [])
  pub of_rules : Prints rules (
      codes "# [ serde ( deny_unknown_fields ) ] struct Root { # [ serde ( default = \"typify_defaults::d0\" ) ] x : Short , # [ serde ( default , skip_serializing_if = \"::std::collections::HashSet::is_empty\" ) ] y : :: std :: collections :: HashSet < [ :: std :: string :: String ; 12 ] > , }"
      ∷ codes "# [ serde ( try_from = \":: std :: string :: String\" ) ] struct Short ( :: std :: string :: String , ) ;"
      ∷ [])
  pub of_leading : Prints leading (
      codes "# [ serde ( transparent ) ] struct PhantomData ( :: std :: option :: Option < :: std :: string :: String > , ) ;"
      ∷ codes "struct X ( PhantomData , ) ;"
      ∷ codes "struct Root { # [ serde ( deserialize_with = \"typify_present::whole\" ) ] a : PhantomData , b : X , # [ serde ( default , deserialize_with = \"typify_present::some\" , skip_serializing_if = \"::std::option::Option::is_none\" ) ] c : :: std :: option :: Option < X > , }"
      ∷ [])
  pub of_alike : Prints alike (
      codes "struct Root { a : ( Inner , Inner , ) , b : ( Inner , Inner , ) , # [ serde ( default , deserialize_with = \"typify_present::some\" , skip_serializing_if = \"::std::option::Option::is_none\" ) ] c : :: std :: option :: Option < ( Inner , Inner , ) > , # [ serde ( flatten ) ] extra : :: std :: collections :: HashMap < :: std :: string :: String , bool > , }"
      ∷ codes "struct Inner { }"
      ∷ [])
  pub defaults_of_enums : default_values enums ≡ null ∷ value.boolean true ∷ []
  pub defaults_of_rules : default_values rules ≡ text (codes "z") ∷ []
  pub constraints_of_rules : constraints_of rules ≡ record { item = codes "Short"; rule = lone_rule } ∷ []

-- the types that trees spell are those meant
pub record Spellings : Type 0 where
  pub row_1 : Spelled row_1
  pub row_18 : Spelled row_18
  pub row_20 : Spelled row_20
  pub chain : Spelled chain
  pub enums : Spelled enums
  pub rules : Spelled rules

-- tables that the laws speak of
pub record SoundTables : Type 0 where
  pub sound_18 : IsSound row_18
  pub formed_18 : IsFormed row_18
  pub sound_20 : IsSound row_20
  pub formed_20 : IsFormed row_20
  pub sound_chain : IsSound chain
  pub formed_chain : IsFormed chain
