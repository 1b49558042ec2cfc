-- What is said of the items below the item of a schema. Of a schema without a reference and without subschemas that judge the same value, each part is converted by itself, and what it
-- becomes stands where the part does: in the list that its items are in, at the place of a tuple, in the map, or at the field, as those of properties come first, in the order of their names.
use Rattle.std.specs.Prelude.{ℕ, List, [], ◌∷◌, ◌++◌, ◌&&◌, Bool, false, Option, Some, None, is_none, if◌then◌else◌}
use Rattle.syntax_trees.specs.Item.{ItemD}
use Rattle.schema_defs.specs.Schema.{Schema, boolean, object, Lists, no_lists, lists, Named, no_named, named, MaybeSchema, no_schema, the_schema, Schemas, no_more, schema, Places, no_items, each_item, by_place, Properties, no_properties, property}
use Rattle.enum_defs.specs.Words.{without_same}
use Rattle.model_defs.specs.Types.{TypeModel}
use Rattle.module_texts.specs.Docs.{Doc}
use Rattle.item_docs.specs.Said.{said_of}
use Rattle.item_docs.specs.Forms.{bare, item_in, Form, each_form, places_form, members_form, fields_form, form}

-- ---- the parts of a form

abbrev pub each_of : Form → Option TypeModel
each_of (each_form t) = Some t
each_of _ = None

abbrev pub places_of : Form → List TypeModel
places_of (places_form ts) = ts
places_of _ = []

abbrev pub members_of : Form → Option TypeModel
members_of (members_form t) = Some t
members_of _ = None

abbrev pub fields_of : Form → List TypeModel
fields_of (fields_form ts) = ts
fields_of _ = []

-- ---- of the schema alone, where its type is an item

-- nothing where nothing is said
abbrev pub doc_if_any : List ℕ → List ℕ → List Doc
doc_if_any n [] = []
doc_if_any n (c ∷ cs) = record { item = n; text = c ∷ cs } ∷ []

abbrev pub doc_of_item : Option (List ℕ) → Schema → List Doc
doc_of_item None s = []
doc_of_item (Some n) s = doc_if_any n (said_of n s)

abbrev pub own_docs : TypeModel → Schema → List Doc
own_docs t s = doc_of_item (item_in (bare t)) s

-- no reference, and no subschema that judges the same value
abbrev pub keeps_parts : Schema → Bool
keeps_parts (boolean b) = false
keeps_parts (object p ss ls ns) = is_none p.reference && without_same ss

-- ---- of what a schema was converted to, and below

-- nothing where there is no type
abbrev pub where_there : (TypeModel → List Doc) → Option TypeModel → List Doc
where_there docs None = []
where_there docs (Some t) = docs t

module _ (is : List ItemD) where
  abbrev mutual
    pub docs_at : Schema → TypeModel → List Doc
    docs_at (boolean b) t = []
    docs_at (object p ss ls ns) t =
        if keeps_parts (object p ss ls ns) then own_docs t (object p ss ls ns) ++ (docs_in_lists ls (form is t) ++ docs_in_members ns (form is t)) else []

    pub docs_in_lists : Lists → Form → List Doc
    docs_in_lists no_lists f = []
    docs_in_lists (lists places others contains rules) f = docs_in_places places f

    pub docs_in_places : Places → Form → List Doc
    docs_in_places no_items f = []
    docs_in_places (each_item s) f = where_there (λ t. docs_at s t) (each_of f)
    docs_in_places (by_place ss) f = docs_in_all ss (places_of f)

    pub docs_in_members : Named → Form → List Doc
    docs_in_members no_named f = []
    docs_in_members (named props patterns others names rules) f = docs_in_properties props (fields_of f) ++ docs_in_maybe others (members_of f)

    pub docs_in_all : Schemas → List TypeModel → List Doc
    docs_in_all no_more ts = []
    docs_in_all (schema s ss) [] = []
    docs_in_all (schema s ss) (t ∷ ts) = docs_at s t ++ docs_in_all ss ts

    pub docs_in_properties : Properties → List TypeModel → List Doc
    docs_in_properties no_properties ts = []
    docs_in_properties (property k s ps) [] = []
    docs_in_properties (property k s ps) (t ∷ ts) = docs_at s t ++ docs_in_properties ps ts

    pub docs_in_maybe : MaybeSchema → Option TypeModel → List Doc
    docs_in_maybe no_schema o = []
    docs_in_maybe (the_schema s) o = where_there (λ t. docs_at s t) o

  -- below a schema alone
  abbrev pub docs_below : Schema → TypeModel → List Doc
  docs_below (boolean b) t = []
  docs_below (object p ss ls ns) t = if keeps_parts (object p ss ls ns) then docs_in_lists ls (form is t) ++ docs_in_members ns (form is t) else []
