-- Worked documents, and the items that are printed for them.
use Rattle.std.specs.Prelude.{◌≡◌, ℕ, List, [], ◌∷◌, Option, Some, option_map, codes}
use Rattle.json_value.specs.Value.{Value}
use Rattle.schema_defs.specs.declared.Setting.TheVariants.{Strict}
use Rattle.schema_defs.specs.Read.{document_of}
use Rattle.schema_defs.specs.Build.{◌≔◌, str, num, no, yes, obj, arr, sample}
use Rattle.emit_defs.specs.Examples.{texts_of}
use Rattle.merged_documents.specs.Laws.{plan_of}

-- the texts of the items, where walks have at most so many steps
abbrev pub printed : ℕ → Value → Option (List (List ℕ))
printed most v = option_map (λ d. texts_of (plan_of sample d most 24)) (document_of Strict v)

pub record Printed : Type 0 where
  pub closed_struct : printed 8 (obj ("additionalProperties" ≔ no ∷ "properties" ≔ (obj ("id" ≔ (obj ("type" ≔ (str "integer") ∷ [])) ∷ "name" ≔ (obj ("type" ≔ (str "string") ∷ [])) ∷ [])) ∷ "required" ≔ (arr ((str "id") ∷ (str "name") ∷ [])) ∷ "type" ≔ (str "object") ∷ [])) ≡ Some (
      codes "# [ serde ( deny_unknown_fields ) ] struct Root { id : i64 , name : :: std :: string :: String , }"
      ∷ [])
  pub named_like_rust : printed 16 (obj ("definitions" ≔ (obj ("PhantomData" ≔ (obj ("type" ≔ (str "string") ∷ [])) ∷ "X" ≔ (obj ("$ref" ≔ (str "#/definitions/PhantomData") ∷ [])) ∷ "i64" ≔ (obj ("type" ≔ (str "integer") ∷ [])) ∷ [])) ∷ "properties" ≔ (obj ("a b" ≔ (obj ("$ref" ≔ (str "#/definitions/X") ∷ [])) ∷ "type" ≔ (obj ("$ref" ≔ (str "#/definitions/i64") ∷ [])) ∷ [])) ∷ "required" ≔ (arr ((str "type") ∷ (str "a b") ∷ [])) ∷ "type" ≔ (str "object") ∷ [])) ≡ Some (
      codes "# [ serde ( transparent ) ] struct PhantomData ( :: std :: string :: String , ) ;"
      ∷ codes "struct X ( PhantomData , ) ;"
      ∷ codes "# [ serde ( transparent ) ] struct Type0 ( i64 , ) ;"
      ∷ codes "struct Root { # [ serde ( rename = \"a b\" ) ] field0 : X , # [ serde ( rename = \"type\" ) ] field1 : Type0 , }"
      ∷ [])
  pub numbered_beside_wanted : printed 8 (obj ("properties" ≔ (obj ("a b" ≔ (obj ("type" ≔ (str "integer") ∷ [])) ∷ "field0" ≔ (obj ("type" ≔ (str "integer") ∷ [])) ∷ "type" ≔ (obj ("type" ≔ (str "integer") ∷ [])) ∷ [])) ∷ "type" ≔ (str "object") ∷ [])) ≡ Some (
      codes "struct Root { # [ serde ( rename = \"a b\" , default , deserialize_with = \"typify_present::some\" , skip_serializing_if = \"::std::option::Option::is_none\" ) ] field1 : :: std :: option :: Option < i64 > , # [ serde ( default , deserialize_with = \"typify_present::some\" , skip_serializing_if = \"::std::option::Option::is_none\" ) ] field0 : :: std :: option :: Option < i64 > , # [ serde ( rename = \"type\" , default , deserialize_with = \"typify_present::some\" , skip_serializing_if = \"::std::option::Option::is_none\" ) ] field2 : :: std :: option :: Option < i64 > , }"
      ∷ [])
  pub definitions : printed 8 (obj ("$ref" ≔ (str "#/definitions/1") ∷ "definitions" ≔ (obj ("1" ≔ (obj ("type" ≔ (str "string") ∷ [])) ∷ "Type0" ≔ (obj ("type" ≔ (str "string") ∷ [])) ∷ "bool" ≔ (obj ("type" ≔ (str "integer") ∷ [])) ∷ [])) ∷ [])) ≡ Some (
      codes "# [ serde ( transparent ) ] struct Type1 ( :: std :: string :: String , ) ;"
      ∷ codes "# [ serde ( transparent ) ] struct Type0 ( :: std :: string :: String , ) ;"
      ∷ codes "# [ serde ( transparent ) ] struct Type2 ( i64 , ) ;"
      ∷ [])
  pub order_of_names : printed 8 (obj ("properties" ≔ (obj ("a" ≔ (obj ("properties" ≔ (obj ("x" ≔ (obj ("type" ≔ (str "integer") ∷ [])) ∷ [])) ∷ "title" ≔ (str "Inner") ∷ "type" ≔ (str "object") ∷ [])) ∷ "b" ≔ (obj ("minLength" ≔ (num 1) ∷ "type" ≔ (str "string") ∷ [])) ∷ [])) ∷ "required" ≔ (arr ((str "a") ∷ [])) ∷ "type" ≔ (str "object") ∷ [])) ≡ Some (
      codes "struct Root { a : Inner , # [ serde ( default , deserialize_with = \"typify_present::some\" , skip_serializing_if = \"::std::option::Option::is_none\" ) ] b : :: std :: option :: Option < Type0 > , }"
      ∷ codes "struct Inner { # [ serde ( default , deserialize_with = \"typify_present::some\" , skip_serializing_if = \"::std::option::Option::is_none\" ) ] x : :: std :: option :: Option < i64 > , }"
      ∷ codes "# [ serde ( try_from = \":: std :: string :: String\" ) ] struct Type0 ( :: std :: string :: String , ) ;"
      ∷ [])
  pub root_referenced : printed 8 (obj ("definitions" ≔ (obj ("A" ≔ (obj ("type" ≔ (str "string") ∷ [])) ∷ [])) ∷ "properties" ≔ (obj ("n" ≔ (obj ("$ref" ≔ (str "#") ∷ [])) ∷ [])) ∷ "title" ≔ (str "Node") ∷ "type" ≔ (str "object") ∷ [])) ≡ Some (
      codes "# [ serde ( transparent ) ] struct A ( :: std :: string :: String , ) ;"
      ∷ codes "struct Node { # [ serde ( default , deserialize_with = \"typify_present::some\" , skip_serializing_if = \"::std::option::Option::is_none\" ) ] n : :: std :: option :: Option < :: std :: boxed :: Box < Node > > , }"
      ∷ [])
  pub option_at_the_root : printed 8 (obj ("properties" ≔ (obj ("a" ≔ (obj ("type" ≔ (str "integer") ∷ [])) ∷ [])) ∷ "type" ≔ (arr ((str "object") ∷ (str "null") ∷ [])) ∷ [])) ≡ Some (
      codes "struct Root { # [ serde ( default , deserialize_with = \"typify_present::some\" , skip_serializing_if = \"::std::option::Option::is_none\" ) ] a : :: std :: option :: Option < i64 > , }"
      ∷ [])
  pub lone_all_of : printed 8 (obj ("properties" ≔ (obj ("a" ≔ (obj ("allOf" ≔ (arr ((obj ("properties" ≔ (obj ("b" ≔ (obj ("type" ≔ (str "integer") ∷ [])) ∷ [])) ∷ "title" ≔ (str "Y") ∷ "type" ≔ (str "object") ∷ [])) ∷ [])) ∷ "title" ≔ (str "X") ∷ [])) ∷ [])) ∷ "type" ≔ (str "object") ∷ [])) ≡ Some (
      codes "struct Root { # [ serde ( default , deserialize_with = \"typify_present::some\" , skip_serializing_if = \"::std::option::Option::is_none\" ) ] a : :: std :: option :: Option < Y > , }"
      ∷ codes "struct Y { # [ serde ( default , deserialize_with = \"typify_present::some\" , skip_serializing_if = \"::std::option::Option::is_none\" ) ] b : :: std :: option :: Option < i64 > , }"
      ∷ [])
  pub listed_values : printed 8 (obj ("enum" ≔ (arr ((num 1) ∷ (num 2) ∷ [])) ∷ "type" ≔ (str "integer") ∷ [])) ≡ Some (
      codes "# [ serde ( try_from = \"i64\" ) ] struct Root ( i64 , ) ;"
      ∷ [])
  pub attributes_of_fields : printed 8 (obj ("definitions" ≔ (obj ("A" ≔ (obj ("type" ≔ (arr ((str "string") ∷ (str "null") ∷ [])) ∷ [])) ∷ [])) ∷ "properties" ≔ (obj ("a" ≔ (obj ("type" ≔ (str "string") ∷ [])) ∷ "b" ≔ (obj ("type" ≔ (arr ((str "string") ∷ (str "null") ∷ [])) ∷ [])) ∷ "c" ≔ (obj ("type" ≔ (str "array") ∷ [])) ∷ "d" ≔ (obj ("default" ≔ (num 7) ∷ "type" ≔ (str "integer") ∷ [])) ∷ "e" ≔ (obj ("type" ≔ (arr ((str "string") ∷ (str "null") ∷ [])) ∷ [])) ∷ "f" ≔ (obj ("additionalProperties" ≔ (obj ("type" ≔ (str "integer") ∷ [])) ∷ "type" ≔ (str "object") ∷ [])) ∷ "g" ≔ (obj ("type" ≔ (str "array") ∷ "uniqueItems" ≔ yes ∷ [])) ∷ "h" ≔ (obj ("$ref" ≔ (str "#/definitions/A") ∷ [])) ∷ [])) ∷ "required" ≔ (arr ((str "e") ∷ (str "h") ∷ [])) ∷ "type" ≔ (str "object") ∷ [])) ≡ Some (
      codes "# [ serde ( transparent ) ] struct A ( :: std :: option :: Option < :: std :: string :: String > , ) ;"
      ∷ codes "struct Root { # [ serde ( default , deserialize_with = \"typify_present::some\" , skip_serializing_if = \"::std::option::Option::is_none\" ) ] a : :: std :: option :: Option < :: std :: string :: String > , # [ serde ( default , skip_serializing_if = \"::std::option::Option::is_none\" ) ] b : :: std :: option :: Option < :: std :: string :: String > , # [ serde ( default , skip_serializing_if = \"::std::vec::Vec::is_empty\" ) ] c : :: std :: vec :: Vec < :: serde_json :: Value > , # [ serde ( default = \"typify_defaults::d0\" ) ] d : i64 , # [ serde ( deserialize_with = \"typify_present::whole\" ) ] e : :: std :: option :: Option < :: std :: string :: String > , # [ serde ( default , skip_serializing_if = \"::std::collections::HashMap::is_empty\" ) ] f : :: std :: collections :: HashMap < :: std :: string :: String , i64 > , # [ serde ( default , skip_serializing_if = \"::std::collections::HashSet::is_empty\" ) ] g : :: std :: collections :: HashSet < :: serde_json :: Value > , # [ serde ( deserialize_with = \"typify_present::whole\" ) ] h : A , }"
      ∷ [])
  pub tuple_and_array : printed 8 (obj ("properties" ≔ (obj ("p" ≔ (obj ("items" ≔ (arr ((obj ("type" ≔ (str "integer") ∷ [])) ∷ (obj ("type" ≔ (str "string") ∷ [])) ∷ [])) ∷ "maxItems" ≔ (num 2) ∷ "minItems" ≔ (num 2) ∷ "type" ≔ (str "array") ∷ [])) ∷ "q" ≔ (obj ("items" ≔ (obj ("type" ≔ (str "boolean") ∷ [])) ∷ "maxItems" ≔ (num 3) ∷ "minItems" ≔ (num 3) ∷ "type" ≔ (str "array") ∷ [])) ∷ [])) ∷ "required" ≔ (arr ((str "p") ∷ (str "q") ∷ [])) ∷ "type" ≔ (str "object") ∷ [])) ≡ Some (
      codes "struct Root { p : ( i64 , :: std :: string :: String , ) , q : [ bool ; 3 ] , }"
      ∷ [])
