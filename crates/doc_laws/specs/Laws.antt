-- The names by which docs are told are those of items.
use Rattle.std.specs.Prelude.{◌≡◌, ℕ, List, [], ◌++◌, map, bytes_eq}
use Rattle.std.specs.List.{IsDistinct}
use Rattle.schema_defs.specs.Texts.{Relations}
use Rattle.schema_defs.specs.Schema.{Document}
use Rattle.entry_defs.specs.Table.{root_of}
use Rattle.naming_defs.specs.Names.{Names}
use Rattle.emit_defs.specs.Emission.{emission}
use Rattle.merged_documents.specs.Laws.{plan_of}
use Rattle.item_docs.specs.Docs.{names_in, definition_docs}

-- of the definitions' docs
abbrev pub doc_names : Document → Names
doc_names d = map (λ x. x.item) (definition_docs d (names_in d) [] (names_in d))

-- of the items of the table that is emitted
abbrev pub item_names : Relations → Document → ℕ → ℕ → Names
item_names r d most n = map (λ i. i.name.text) (emission (plan_of r d most n) (root_of (plan_of r d most n))).items

-- they are the first of these, whatever the document's schemas are converted to
abbrev pub DocsHaveItemsNames : Type 0
DocsHaveItemsNames = (r : Relations) (d : Document) (most n : ℕ) → (more : Names) × (doc_names d ++ more ≡ item_names r d most n)

-- no two items have one name
abbrev pub ItemNamesDiffer : Type 0
ItemNamesDiffer = (r : Relations) (d : Document) (most n : ℕ) → IsDistinct bytes_eq (item_names r d most n)
