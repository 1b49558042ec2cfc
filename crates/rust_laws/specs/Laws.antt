-- What holds of each page that `rust` prints: its items are those of the report, token by token, and what is said of an item stands above it.
use Rattle.std.specs.Prelude.{◌≡◌, ℕ, List, [], ◌∷◌, ◌++◌, map, Some, bytes_eq}
use Rattle.std.specs.List.{AllByRecursion, IsDistinct}
use Rattle.serde_json.specs.Data.{Data}
use Rattle.json_value.specs.View.{value_of}
use Rattle.schema_defs.specs.declared.Setting.TheVariants.{Strict}
use Rattle.schema_defs.specs.Schema.{Document}
use Rattle.schema_defs.specs.Read.{document_of}
use Rattle.syntax_trees.specs.Syntax.{TyD}
use Rattle.syntax_trees.specs.View.{ty}
use Rattle.syntax_trees.specs.Item.{ItemD}
use Rattle.type_spellings.specs.Types.{type_of}
use Rattle.typify_run.specs.Headline.{items_of}
use Rattle.typify_run.specs.declared.report.Report.{Report}
use Rattle.schema_words.specs.Input.{IsSchema}
use Rattle.schema_words.specs.Outcome.{IsReportOn}
use Rattle.schema_words.specs.Words.{Asking}
use Rattle.module_texts.specs.Docs.{Doc, own_doc, docs_behind}
use Rattle.emitted_modules.specs.Laws.{KeepsTokens}
use Rattle.item_docs.specs.Forms.{item_in}
use Rattle.item_docs.specs.Docs.{of_definitions, root_docs, below_docs, text_for}
use Rattle.rust_run.specs.Prints.{docs_for}

-- what holds of a schema and the report on it, whatever the words and the input
abbrev pub OfReports : (Data → Report → Type 0) → Type 0
OfReports P = (c : Asking) (all : List ℕ) (d : Data) (r : Report) → IsSchema all d → IsReportOn c (value_of d) r → P d r

-- ---- the items

-- The page has the text of a module of these items (`rust_page`), and the text of each is its declaration between comments, derives and a hash (`parts` of `ItemsKeepTokens`).
abbrev pub PagesKeepItems : Type 0
PagesKeepItems = OfReports (λ d r. AllByRecursion KeepsTokens (items_of r))

-- ---- what is said of them

-- the text that stands above each item of a module with these docs
abbrev pub docs_above : List ItemD → List Doc → List (List ℕ)
docs_above [] ds = []
docs_above (i ∷ is) ds = own_doc ds i.name.text ∷ docs_above is (docs_behind ds i.name.text)

-- what is said of the root's item and of those below
abbrev pub other_docs : Document → List ItemD → TyD → List Doc
other_docs d is root = root_docs (item_in (type_of root)) d.root ++ below_docs d is root

-- Above the first items, which are those of the definitions by their names, stands what is said of each definition, and nothing else; above each of the others, no name of which is one of these,
-- the first that is said of an item of its name by the root or below.
pub record DocsStand (d : Data) (r : Report) (document : Document) : Type 0 where
  pub others : List ItemD
  pub named : map (λ x. x.item) (of_definitions document) ++ map (λ i. i.name.text) others ≡ map (λ i. i.name.text) (items_of r)
  pub differ : IsDistinct bytes_eq (map (λ x. x.item) (of_definitions document) ++ map (λ i. i.name.text) others)
  pub stand : docs_above (items_of r) (docs_for d r) ≡ map (λ x. x.text) (of_definitions document) ++ map (λ i. text_for (other_docs document (items_of r) (ty r.root)) i.name.text) others

abbrev pub DocsStandAtTheirItems : Type 0
DocsStandAtTheirItems = OfReports (λ d r. (document : Document) → document_of Strict (value_of d) ≡ Some document → DocsStand d r document)
