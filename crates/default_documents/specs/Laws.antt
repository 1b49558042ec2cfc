-- Stated defaults of documents.
use Rattle.std.specs.Prelude.{◌≡◌, ℕ, [], true}
use Rattle.schema_defs.specs.Texts.{Relations}
use Rattle.schema_defs.specs.Schema.{Document}
use Rattle.entry_defs.specs.Table.{items_of}
use Rattle.emit_defs.specs.Models.{conversions_of_items}
use Rattle.emit_defs.specs.Emission.{models_of}
use Rattle.reading_defs.specs.Laws.{defaults_are_sound}
use Rattle.convert_walks.specs.Tree.{table_of}
use Rattle.convert_walks.specs.Told.{faults_of}
use Rattle.convert_trees.specs.Unread.{unread_in_document}
use Rattle.document_laws.specs.Laws.{WasRead}
use Rattle.merged_documents.specs.Laws.{plan_of}
use Rattle.default_laws.specs.Laws.{AllEnd}

-- where a document has no fault, and each value that its schemas state is read
abbrev pub StatedDefaultsEnd : Type 0
StatedDefaultsEnd = (r : Relations) (d : Document) (most n : ℕ) → faults_of r d most n ≡ [] → unread_in_document r d most n ≡ [] → AllEnd (table_of r d most n) r

abbrev pub ReadDefaultsAreSound : Type 0
ReadDefaultsAreSound =
    (r : Relations) (d : Document) (most n : ℕ) → WasRead d → faults_of r d most n ≡ [] → unread_in_document r d most n ≡ []
    → let t = plan_of r d most n in defaults_are_sound (models_of t) (conversions_of_items (items_of t)) r ≡ true
