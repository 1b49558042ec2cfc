-- Small items, what a rule asks and what a default gives, line by line.
use Rattle.std.specs.Prelude.{◌≡◌, ℕ, List, [], ◌∷◌, true, false, Option, Some, None, codes}
use Rattle.serde_json.specs.Data.{boolean, number, unsigned}
use Rattle.token_trees.specs.Token.{Tok, Name, fixed, text, site}
use Rattle.syntax_trees.specs.Syntax.{TyD, ty_path, path, ArgumentsD, segment, no_arguments, angle, arg_ty, no_qself, Segments, end_segments, more_segments, end_generics, more_generics}
use Rattle.syntax_trees.specs.Item.{MetaD, meta_list, FieldD, named_fields, unnamed_fields, unit_fields, BodyD, struct_body, enum_body, ItemD}
use Rattle.syntax_printing.specs.Print.{sign, keyword}
use Rattle.module_texts.specs.Attributes.{attribute_lines}
use Rattle.module_texts.specs.Fields.{field_line}
use Rattle.module_texts.specs.Calls.{call_line}
use Rattle.module_texts.specs.Rules.{text_lines, listed_line}
use Rattle.module_texts.specs.Defaults.{default_text}
use Rattle.module_texts.specs.Items.{item_text, items_text}
use Rattle.module_texts.specs.Module.{root_line}

abbrev pub name_of : List ℕ → Name
name_of x = record { text = x; span = site }

-- the last name has the arguments
abbrev pub segments : List (List ℕ) → ArgumentsD → Segments
segments [] a = end_segments
segments (x ∷ []) a = more_segments (segment (name_of x) a) end_segments
segments (x ∷ y ∷ xs) a = more_segments (segment (name_of x) no_arguments) (segments (y ∷ xs) a)

abbrev pub plain : List ℕ → TyD
plain x = ty_path no_qself (path false (segments (x ∷ []) no_arguments))

abbrev pub in_std : List ℕ → List ℕ → ArgumentsD → TyD
in_std x y a = ty_path no_qself (path true (segments (codes "std" ∷ x ∷ y ∷ []) a))

abbrev pub string_ty : TyD
string_ty = in_std (codes "string") (codes "String") no_arguments

abbrev pub holding : List ℕ → List ℕ → TyD → TyD
holding x y t = in_std x y (angle false (more_generics (arg_ty t) end_generics))

abbrev pub serde : List Tok → List MetaD
serde ts = meta_list (path false (segments (codes "serde" ∷ []) no_arguments)) ts site ∷ []

abbrev pub says : List ℕ → List ℕ → List Tok
says x v = keyword x ∷ sign 61 ∷ fixed (text v []) site ∷ []

abbrev pub field : List MetaD → List ℕ → TyD → FieldD
field ms x t = record { attrs = ms; name = Some (name_of x); ty = t }

abbrev pub place : TyD → FieldD
place t = record { attrs = []; name = None; ty = t }

abbrev pub item : List MetaD → List ℕ → BodyD → ItemD
item ms x b = record { attrs = ms; name = name_of x; params = []; predicates = []; body = b }

abbrev pub person : ItemD
person = item (serde (keyword (codes "deny_unknown_fields") ∷ [])) (codes "Person") (struct_body (named_fields (
    field [] (codes "name") string_ty
    ∷ field (serde (keyword (codes "default") ∷ sign 44 ∷ says (codes "rename") (codes "Age"))) (codes "age") (holding (codes "option") (codes "Option") (plain (codes "u8")))
    ∷ [])) site)

abbrev pub way : ItemD
way = item (serde (says (codes "tag") (codes "kind"))) (codes "Way") (enum_body (
    record { attrs = []; name = name_of (codes "Off"); fields = unit_fields }
    ∷ record { attrs = serde (says (codes "rename") (codes "to")); name = name_of (codes "To"); fields = named_fields (field [] (codes "x") (plain (codes "i64")) ∷ []) }
    ∷ record { attrs = []; name = name_of (codes "By"); fields = unnamed_fields (place (plain (codes "u8")) ∷ place string_ty ∷ []) }
    ∷ []) site)

abbrev pub tags : ItemD
tags = item [] (codes "Tags") (struct_body (unnamed_fields (place (holding (codes "collections") (codes "HashSet") (plain (codes "Way"))) ∷ [])) site)

-- without fields
abbrev pub empty : List ℕ → ItemD
empty n = item [] n (struct_body (named_fields []) site)

pub record Modules : Type 0 where
  pub root : root_line (holding (codes "vec") (codes "Vec") (plain (codes "Person"))) ≡ codes "// root ::std::vec::Vec<Person>\n"
  pub struct_item : item_text false [] person
      ≡ codes "\n#[derive(Clone, Debug, PartialEq, ::serde::Serialize, ::serde::Deserialize)]\n#[serde(deny_unknown_fields)]\npub struct Person {\n    pub name: ::std::string::String,\n    #[serde(default, rename = \"Age\")]\n    pub age: ::std::option::Option<u8>,\n}\n"
  pub enum_item : item_text true [] way
      ≡ codes "\n#[derive(Clone, Debug, PartialEq, Eq, Hash, ::serde::Serialize, ::serde::Deserialize)]\n#[serde(tag = \"kind\")]\npub enum Way {\n    Off,\n    #[serde(rename = \"to\")]\n    To {\n        x: i64,\n    },\n    By(u8, ::std::string::String),\n}\n"
  pub set_item : item_text true [] tags
      ≡ codes "\n#[derive(Clone, Debug, PartialEq, Eq, ::serde::Serialize, ::serde::Deserialize)]\npub struct Tags(pub ::std::collections::HashSet<Way>);\n\n// Sets and maps have no hash: each value has the same.\nimpl ::std::hash::Hash for Tags {\n    fn hash<H: ::std::hash::Hasher>(&self, _: &mut H) {}\n}\n"
  pub empty_item : item_text false [] (empty (codes "Nothing")) ≡ codes "\n#[derive(Clone, Debug, PartialEq, ::serde::Serialize, ::serde::Deserialize)]\npub struct Nothing {}\n"
  pub described : items_text false (empty (codes "A") ∷ empty (codes "B") ∷ []) (record { item = codes "B"; text = codes "Title\n\nb" } ∷ []) []
      ≡ codes "\n#[derive(Clone, Debug, PartialEq, ::serde::Serialize, ::serde::Deserialize)]\npub struct A {}\n\n/// Title\n///\n/// b\n#[derive(Clone, Debug, PartialEq, ::serde::Serialize, ::serde::Deserialize)]\npub struct B {}\n"
  pub bounds : text_lines (Some 1) None (codes "^a.$" ∷ []) [] ≡ codes "        typify_present::at_least(&value, 1)?;\n        typify_present::has(&value, \"^a[^\\\\n\\\\r\\\\x{2028}\\\\x{2029}]$\")?;\n"
  pub one_pattern : text_lines None None [] (codes "a" ∷ codes "b" ∷ []) ≡ codes "        typify_present::has_one(&value, &[\"a\", \"b\"])?;\n"
  pub denied : text_lines None None (codes "^(?!a)b(?<=c)$" ∷ []) [] ≡ codes "        typify_present::has(&value, \"^b$\")?;\n        typify_present::lacks(&value, \"^(?:a)\")?;\n        typify_present::has(&value, \"(?:c)$\")?;\n"
  pub one_where : text_lines None None [] (codes "a" ∷ codes "^(?!b)c(?<=c)$" ∷ []) ≡ codes "        typify_present::has_one_where(&value, &[&[(\"a\", true)], &[(\"^c$\", true), (\"^(?:b)\", false), (\"(?:c)$\", true)]])?;\n"
  pub listed : listed_line (codes "listed") (number (unsigned 1) ∷ number (unsigned 20) ∷ []) ≡ codes "        typify_present::listed(&value, \"[1,20]\")?;\n"
  pub stated : default_text 3 (boolean true) ≡ codes "\n    pub fn d3<T: DeserializeOwned>() -> T {\n        serde_json::from_str(\"true\").unwrap()\n    }\n"
  -- 70 characters of arguments, and 71; a line of 99 with one argument, and of 100; a field of 100, and of 101
  pub arguments_fit : attribute_lines (codes "    ") (serde (keyword (codes "default") ∷ sign 44 ∷ says (codes "rename") (codes "xxxxxxxxxxxxxxxxxxxxxxxxxxxxxxxxxxxxxxxxxxxxxxxxxx"))) ≡ codes "    #[serde(default, rename = \"xxxxxxxxxxxxxxxxxxxxxxxxxxxxxxxxxxxxxxxxxxxxxxxxxx\")]\n"
  pub arguments_broken : attribute_lines (codes "    ") (serde (keyword (codes "default") ∷ sign 44 ∷ says (codes "rename") (codes "xxxxxxxxxxxxxxxxxxxxxxxxxxxxxxxxxxxxxxxxxxxxxxxxxxx"))) ≡ codes "    #[serde(\n        default,\n        rename = \"xxxxxxxxxxxxxxxxxxxxxxxxxxxxxxxxxxxxxxxxxxxxxxxxxxx\"\n    )]\n"
  pub argument_fits : attribute_lines (codes "    ") (serde (says (codes "rename") (codes "xxxxxxxxxxxxxxxxxxxxxxxxxxxxxxxxxxxxxxxxxxxxxxxxxxxxxxxxxxxxxxxxxxxxxxxxxx"))) ≡ codes "    #[serde(rename = \"xxxxxxxxxxxxxxxxxxxxxxxxxxxxxxxxxxxxxxxxxxxxxxxxxxxxxxxxxxxxxxxxxxxxxxxxxx\")]\n"
  pub argument_broken : attribute_lines (codes "    ") (serde (says (codes "rename") (codes "xxxxxxxxxxxxxxxxxxxxxxxxxxxxxxxxxxxxxxxxxxxxxxxxxxxxxxxxxxxxxxxxxxxxxxxxxxx"))) ≡ codes "    #[serde(\n        rename = \"xxxxxxxxxxxxxxxxxxxxxxxxxxxxxxxxxxxxxxxxxxxxxxxxxxxxxxxxxxxxxxxxxxxxxxxxxxx\"\n    )]\n"
  pub field_fits : field_line (codes "    ") (codes "pub ") (field [] (codes "a") (plain (codes "TTTTTTTTTTTTTTTTTTTTTTTTTTTTTTTTTTTTTTTTTTTTTTTTTTTTTTTTTTTTTTTTTTTTTTTTTTTTTTTTTTTTTTTT"))) ≡ codes "    pub a: TTTTTTTTTTTTTTTTTTTTTTTTTTTTTTTTTTTTTTTTTTTTTTTTTTTTTTTTTTTTTTTTTTTTTTTTTTTTTTTTTTTTTTTT,\n"
  pub field_broken : field_line (codes "    ") (codes "pub ") (field [] (codes "a") (plain (codes "TTTTTTTTTTTTTTTTTTTTTTTTTTTTTTTTTTTTTTTTTTTTTTTTTTTTTTTTTTTTTTTTTTTTTTTTTTTTTTTTTTTTTTTTT"))) ≡ codes "    pub a:\n        TTTTTTTTTTTTTTTTTTTTTTTTTTTTTTTTTTTTTTTTTTTTTTTTTTTTTTTTTTTTTTTTTTTTTTTTTTTTTTTTTTTTTTTTT,\n"
  -- arguments of 60 characters, and of 61; a literal whose line would have 100, and 101
  pub call_fits : call_line (codes "has") (codes "\"xxxxxxxxxxxxxxxxxxxxxxxxxxxxxxxxxxxxxxxxxxxxxxxxxx\"") ≡ codes "        typify_present::has(&value, \"xxxxxxxxxxxxxxxxxxxxxxxxxxxxxxxxxxxxxxxxxxxxxxxxxx\")?;\n"
  pub call_broken : call_line (codes "has") (codes "\"xxxxxxxxxxxxxxxxxxxxxxxxxxxxxxxxxxxxxxxxxxxxxxxxxxx\"") ≡ codes "        typify_present::has(\n            &value,\n            \"xxxxxxxxxxxxxxxxxxxxxxxxxxxxxxxxxxxxxxxxxxxxxxxxxxx\",\n        )?;\n"
  pub call_wide : call_line (codes "has") (codes "\"xxxxxxxxxxxxxxxxxxxxxxxxxxxxxxxxxxxxxxxxxxxxxxxxxxxxxxxxxxxxxxxxxxxxxxxxxxxxxxxxxxxxx\"") ≡ codes "        typify_present::has(\n            &value,\n            \"xxxxxxxxxxxxxxxxxxxxxxxxxxxxxxxxxxxxxxxxxxxxxxxxxxxxxxxxxxxxxxxxxxxxxxxxxxxxxxxxxxxxx\",\n        )?;\n"
  pub call_kept : call_line (codes "has") (codes "\"xxxxxxxxxxxxxxxxxxxxxxxxxxxxxxxxxxxxxxxxxxxxxxxxxxxxxxxxxxxxxxxxxxxxxxxxxxxxxxxxxxxxxx\"") ≡ codes "        typify_present::has(&value, \"xxxxxxxxxxxxxxxxxxxxxxxxxxxxxxxxxxxxxxxxxxxxxxxxxxxxxxxxxxxxxxxxxxxxxxxxxxxxxxxxxxxxxx\")?;\n"
