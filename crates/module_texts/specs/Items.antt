-- Items with their docs and derives, and the conversions that their rules ask.
use Rattle.std.specs.Prelude.{ℕ, List, [], ◌∷◌, ◌++◌, Bool, false, not, ◌&&◌, codes, if◌then◌else◌}
use Rattle.syntax_trees.specs.Item.{FieldsD, named_fields, unnamed_fields, unit_fields, BodyD, struct_body, enum_body, union_body, ItemD}
use Rattle.conversion_table.specs.declared.conversions.Constraint.{Constraint}
use Rattle.tidy_texts.specs.Comment.{doc_comment}
use Rattle.module_texts.specs.declared.asked.Asked.TheVariants.{Holder, Length}
use Rattle.module_texts.specs.Asked.{body_has}
use Rattle.module_texts.specs.Attributes.{attribute_lines}
use Rattle.module_texts.specs.Fields.{braced_text, places_text, variants_text}
use Rattle.module_texts.specs.Impls.{impl_of, left_behind}
use Rattle.module_texts.specs.Docs.{Doc, own_doc, docs_behind}

-- std's sets and maps have no `Hash`
abbrev pub derive_line : Bool → Bool → List ℕ
derive_line hashed holder =
    codes "#[derive(Clone, Debug, PartialEq, " ++ ((if hashed then codes "Eq, " else []) ++ ((if hashed && not holder then codes "Hash, " else []) ++ codes "::serde::Serialize, ::serde::Deserialize)]\n"))

abbrev pub keyword : BodyD → List ℕ
keyword (struct_body fs at) = codes "struct "
keyword (enum_body vs at) = codes "enum "
keyword (union_body fs at) = codes "union "

abbrev pub struct_text : FieldsD → List ℕ
struct_text (named_fields fs) = braced_text [] (codes "    ") (codes "pub ") fs
struct_text (unnamed_fields fs) = places_text (codes "pub ") fs ++ codes ";"
struct_text unit_fields = codes ";"

abbrev pub body_text : BodyD → List ℕ
body_text (struct_body fs at) = struct_text fs
body_text (enum_body vs at) = variants_text vs
body_text (union_body fs at) = braced_text [] (codes "    ") (codes "pub ") fs

abbrev pub hash_text : List ℕ → List ℕ
hash_text n =
    codes "\n// Sets and maps have no hash: each value has the same.\nimpl ::std::hash::Hash for " ++ (n ++ codes " {\n    fn hash<H: ::std::hash::Hasher>(&self, _: &mut H) {}\n}\n")

abbrev pub hash_where : Bool → List ℕ → List ℕ
hash_where needed n = if needed then hash_text n else []

-- traits that std and serde don't give to what stands in the item
abbrev pub long_line : List ℕ
long_line = codes "// A tuple of more than 12 places or an array of more than 32 stands in it: write these traits yourself.\n"

abbrev pub head_text : Bool → Bool → ItemD → List ℕ
head_text hashed holder i = derive_line hashed holder ++ (attribute_lines [] i.attrs ++ (codes "pub " ++ (keyword i.body ++ i.name.text)))

abbrev pub holds : ItemD → Bool
holds i = body_has Holder false i.body

abbrev pub is_long : ItemD → Bool
is_long i = body_has Length false i.body

-- whether it holds a set or a map, and whether it is long, is known
abbrev pub parts_text : Bool → Bool → Bool → List ℕ → ItemD → List ℕ
parts_text hashed holder long doc i =
    codes "\n"
    ++ ((if long then long_line else [])
    ++ (doc_comment doc ++ (head_text hashed holder i ++ (body_text i.body ++ (codes "\n" ++ hash_where (hashed && holder) i.name.text)))))

-- with a text that is said of it
abbrev pub item_text : Bool → List ℕ → ItemD → List ℕ
item_text hashed doc i = parts_text hashed (holds i) (is_long i) doc i

abbrev pub items_text : Bool → List ItemD → List Doc → List Constraint → List ℕ
items_text hashed [] ds cs = []
items_text hashed (i ∷ is) ds cs = (item_text hashed (own_doc ds i.name.text) i ++ impl_of i cs) ++ items_text hashed is (docs_behind ds i.name.text) (left_behind cs i.name.text)
