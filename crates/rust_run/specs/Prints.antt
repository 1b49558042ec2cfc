-- What `rust` prints of a schema and the report on it.
use Rattle.std.specs.Prelude.{◌≡◌, ℕ, List, ◌++◌, codes}
use Rattle.serde_json.specs.Data.{Data}
use Rattle.json_value.specs.View.{value_of}
use Rattle.syntax_trees.specs.View.{ty as ty_view}
use Rattle.schema_defs.specs.declared.Setting.TheVariants.{Strict}
use Rattle.schema_defs.specs.Read.{document_of}
use Rattle.schema_words.specs.Said.{Said, page, no}
use Rattle.typify_run.specs.Page.{head}
use Rattle.typify_run.specs.Headline.{items_of}
use Rattle.typify_run.specs.declared.report.Report.{Report}
use Rattle.tidy_texts.specs.Comment.{comment}
use Rattle.module_texts.specs.Docs.{Doc}
use Rattle.module_texts.specs.Module.{module_text}
use Rattle.item_docs.specs.Docs.{docs_in}

-- what the document says of its items; the setting changes no title or description
abbrev pub docs_for : Data → Report → List Doc
docs_for d r = docs_in (document_of Strict (value_of d)) (items_of r) (ty_view r.root)

-- the version, the number of items and the notes as a comment, and the module with the items and what is said of them
abbrev pub rust_page : Data → Report → List ℕ
rust_page d r = (codes "// typify 0.8.0\n" ++ comment (head r)) ++ module_text (items_of r) (docs_for d r) r.conversions (ty_view r.root)

-- always a page
abbrev pub Prints : Data → Report → Said → Type 0
Prints d r (page text) = text ≡ rust_page d r
Prints d r (no text) = ⊥
