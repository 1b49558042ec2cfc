-- Small documents, and what is said of their items.
use Rattle.std.specs.Prelude.{◌≡◌, ℕ, List, [], ◌∷◌, map, true, false, Option, Some, None, codes}
use Rattle.token_trees.specs.Token.{site}
use Rattle.syntax_trees.specs.Syntax.{TyD, ty_path, path, segment, no_arguments, angle, arg_ty, no_qself, end_segments, more_segments, generics_of}
use Rattle.syntax_trees.specs.Item.{ItemD, struct_body, named_fields, unnamed_fields}
use Rattle.schema_defs.specs.declared.Setting.TheVariants.{Strict}
use Rattle.schema_defs.specs.Schema.{Plain, Schema, object, no_same, no_lists, lists, no_named, named, no_schema, each_item, no_properties, property, Definition, Document}
use Rattle.module_texts.specs.Docs.{Doc}
use Rattle.item_docs.specs.Said.{said_of}
use Rattle.item_docs.specs.Docs.{docs_of}

abbrev pub plain : Option (List ℕ) → Option (List ℕ) → Option (List ℕ) → Plain
plain t d q = record { title = t; description = d; default = None; const_value = None; types = None; format = None; enum_values = None; numbers = None; texts = None; reference = q; walk = None }

abbrev pub schema : Option (List ℕ) → Option (List ℕ) → Schema
schema t d = object (plain t d None) no_same no_lists no_named

abbrev pub described : List ℕ → Schema
described d = schema None (Some d)

-- of the schema of a document's other member
abbrev pub referring : List ℕ → List ℕ → Schema
referring q d = object (plain None (Some d) (Some q)) no_same no_lists no_named

-- with one property
abbrev pub holding : List ℕ → List ℕ → Schema → Schema
holding d k s =
    object (plain None (Some d) None) no_same no_lists (named (property k s no_properties) no_properties no_schema no_schema (record { max_properties = None; min_properties = None; required = [] }))

abbrev pub listing : List ℕ → Schema → Schema
listing d s = object (plain None (Some d) None) no_same (lists (each_item s) no_schema no_schema (record { max_items = None; min_items = None; unique_items = None })) no_named

abbrev pub under : List ℕ → Schema → Definition
under k s = record { name = k; under_defs = false; body = s }

abbrev pub document : Schema → List Definition → Document
document s ds = record { setting = Strict; root = s; definitions = ds }

abbrev pub lone : List ℕ → TyD
lone n = ty_path no_qself (path false (more_segments (segment (record { text = n; span = site }) no_arguments) end_segments))

-- in a list
abbrev pub many : TyD → TyD
many t =
    ty_path no_qself (path true (more_segments (segment (record { text = codes "std"; span = site }) no_arguments)
    (more_segments (segment (record { text = codes "vec"; span = site }) no_arguments)
    (more_segments (segment (record { text = codes "Vec"; span = site }) (angle false (generics_of (arg_ty t ∷ [])))) end_segments))))

abbrev pub holds : List ℕ → List (List ℕ × TyD) → ItemD
holds n fs = record {
  attrs = [];
  name = record { text = n; span = site };
  params = [];
  predicates = [];
  body = struct_body (named_fields (map (λ f. record { attrs = []; name = Some (record { text = f.0; span = site }); ty = f.1 }) fs)) site;
}

abbrev pub newtype : List ℕ → TyD → ItemD
newtype n t = record { attrs = []; name = record { text = n; span = site }; params = []; predicates = []; body = struct_body (unnamed_fields (record { attrs = []; name = None; ty = t } ∷ [])) site }

abbrev pub doc : List ℕ → List ℕ → Doc
doc n t = record { item = n; text = t }

pub record Docs : Type 0 where
  pub both : said_of (codes "a") (schema (Some (codes "A")) (Some (codes "of a"))) ≡ codes "A\n\nof a"
  pub own_name : said_of (codes "A") (schema (Some (codes "A")) (Some (codes "of a"))) ≡ codes "of a"
  pub title_alone : said_of (codes "a") (schema (Some (codes "A")) None) ≡ codes "A"
  pub root_last : docs_of (document (described (codes "r")) (under (codes "a") (described (codes "of a")) ∷ [])) (holds (codes "a") [] ∷ holds (codes "Root") [] ∷ []) (lone (codes "Root"))
      ≡ doc (codes "a") (codes "of a") ∷ doc (codes "Root") (codes "r") ∷ []
  pub numbered : docs_of (document (described (codes "r")) (under (codes "a-b") (described (codes "1")) ∷ under (codes "b") (described (codes "2")) ∷ [])) (holds (codes "Type0") [] ∷ holds (codes "b") [] ∷ []) (lone (codes "u8"))
      ≡ doc (codes "Type0") (codes "1") ∷ doc (codes "b") (codes "2") ∷ []
  -- the item of a property
  pub property_below : docs_of (document (holding (codes "r") (codes "p") (described (codes "of p"))) []) (holds (codes "Root") ((codes "p", lone (codes "Type0")) ∷ []) ∷ holds (codes "Type0") [] ∷ []) (lone (codes "Root"))
      ≡ doc (codes "Root") (codes "r") ∷ doc (codes "Type0") (codes "of p") ∷ []
  -- below a definition whose item is a newtype of a list
  pub items_below : docs_of (document (described (codes "r")) (under (codes "a") (listing (codes "all") (described (codes "each"))) ∷ [])) (newtype (codes "a") (many (lone (codes "Type0"))) ∷ holds (codes "Type0") [] ∷ []) (lone (codes "u8"))
      ≡ doc (codes "a") (codes "all") ∷ doc (codes "Type0") (codes "each") ∷ []
  -- a property that refers to a definition says nothing of its item, and no more does a property whose field is no item
  pub reference_below : docs_of (document (holding (codes "r") (codes "p") (referring (codes "#/definitions/a") (codes "here"))) (under (codes "a") (described []) ∷ [])) (holds (codes "a") [] ∷ holds (codes "Root") ((codes "p", lone (codes "a")) ∷ []) ∷ []) (lone (codes "Root"))
      ≡ doc (codes "a") [] ∷ doc (codes "Root") (codes "r") ∷ []
  pub no_item_below : docs_of (document (holding (codes "r") (codes "p") (described (codes "of p"))) []) (holds (codes "Root") ((codes "p", lone (codes "u8")) ∷ []) ∷ []) (lone (codes "Root"))
      ≡ doc (codes "Root") (codes "r") ∷ []
  -- of two properties that lead to one item the first that says something does
  pub first_said : docs_of (document (holding (codes "r") (codes "p") (holding [] (codes "q") (described (codes "of q")))) [])
      (holds (codes "Root") ((codes "p", lone (codes "Type0")) ∷ []) ∷ holds (codes "Type0") ((codes "q", lone (codes "Type0")) ∷ []) ∷ []) (lone (codes "Root"))
      ≡ doc (codes "Root") (codes "r") ∷ doc (codes "Type0") (codes "of q") ∷ []
