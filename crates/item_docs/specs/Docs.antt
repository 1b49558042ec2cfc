-- What is said of items: the titles and descriptions of schemas. A report doesn't say of which schema an item is. But definitions are named before all else, in the order of their
-- names, and no other item is given a name that is taken; so the names of the definitions alone say which items are theirs. Those below are told by what their fields and types hold.
use Rattle.std.specs.Prelude.{ℕ, List, [], ◌∷◌, ◌++◌, map, Option, Some, None, option_map}
use Rattle.syntax_trees.specs.Syntax.{TyD}
use Rattle.syntax_trees.specs.Item.{ItemD}
use Rattle.schema_defs.specs.Schema.{Schema, Document}
use Rattle.schema_defs.specs.Admits.{defined}
use Rattle.model_defs.specs.Types.{item_type}
use Rattle.type_spellings.specs.Types.{type_of}
use Rattle.naming_defs.specs.Names.{Names, item_name}
use Rattle.naming_defs.specs.Good.{is_good_name}
use Rattle.module_texts.specs.Docs.{Doc}
use Rattle.item_docs.specs.Said.{said_of, said_where}
use Rattle.item_docs.specs.Forms.{first_named, item_in}
use Rattle.item_docs.specs.Nested.{docs_at, docs_below}

-- ---- of the definitions

abbrev pub names_in : Document → Names
names_in d = map (λ e. e.name) d.definitions

abbrev pub body_in : Document → List ℕ → Option Schema
body_in d k = option_map (λ e. e.body) (defined k d.definitions)

-- the names `beside` are those of all definitions, and `taken` are those that the items before have
abbrev pub definition_docs : Document → Names → Names → Names → List Doc
definition_docs d beside taken [] = []
definition_docs d beside taken (k ∷ ks) =
    let n = item_name is_good_name beside taken k in record { item = n; text = said_where n (body_in d k) } ∷ definition_docs d beside (n ∷ taken) ks

abbrev pub of_definitions : Document → List Doc
of_definitions d = definition_docs d (names_in d) [] (names_in d)

-- ---- of the root, where its type is an item

abbrev pub root_docs : Option (List ℕ) → Schema → List Doc
root_docs None s = []
root_docs (Some n) s = record { item = n; text = said_of n s } ∷ []

-- ---- below these

module _ (is : List ItemD) where
  abbrev pub below_body : Option Schema → List ℕ → List Doc
  below_body None n = []
  below_body (Some s) n = docs_below is s (item_type n)

  -- of definitions with these names, the first of them with these docs
  abbrev pub below_definitions : Document → List Doc → Names → List Doc
  below_definitions d [] ks = []
  below_definitions d (x ∷ xs) [] = []
  below_definitions d (x ∷ xs) (k ∷ ks) = below_body (body_in d k) x.item ++ below_definitions d xs ks

-- ---- of a document whose root has that type

abbrev pub below_docs : Document → List ItemD → TyD → List Doc
below_docs d is root = below_definitions is d (of_definitions d) (names_in d) ++ docs_at is d.root (type_of root)

-- those of the definitions stand before the root's, as the root may be the item of one, and all others behind
abbrev pub told_docs : Document → List ItemD → TyD → List Doc
told_docs d is root = (of_definitions d ++ root_docs (item_in (type_of root)) d.root) ++ below_docs d is root

-- the text of the first that has the name
abbrev pub text_in : Option Doc → List ℕ
text_in None = []
text_in (Some x) = x.text

abbrev pub text_for : List Doc → List ℕ → List ℕ
text_for ds n = text_in (first_named (λ x. x.item) n ds)

-- one for each item, in their order
abbrev pub item_doc : List Doc → ItemD → Doc
item_doc ds i = record { item = i.name.text; text = text_for ds i.name.text }

abbrev pub in_order : List Doc → List ItemD → List Doc
in_order ds is = map (item_doc ds) is

abbrev pub docs_of : Document → List ItemD → TyD → List Doc
docs_of d is root = in_order (told_docs d is root) is

abbrev pub docs_in : Option Document → List ItemD → TyD → List Doc
docs_in None is root = []
docs_in (Some d) is root = docs_of d is root
