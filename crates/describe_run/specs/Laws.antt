-- What is printed for a schema without notes.
use Rattle.std.specs.Prelude.{◌≡◌, ℕ, List, [], Some}
use Rattle.serde_json.specs.Data.{Data}
use Rattle.json_value.specs.Value.{Value, IsSmall}
use Rattle.json_value.specs.View.{value_of}
use Rattle.schema_defs.specs.declared.Setting.{Setting}
use Rattle.schema_defs.specs.declared.Setting.TheVariants.{Strict}
use Rattle.schema_defs.specs.Texts.{Relations, IsLawful}
use Rattle.schema_defs.specs.Schema.{Document}
use Rattle.schema_defs.specs.Read.{document_of}
use Rattle.schema_defs.specs.Counts.{nodes}
use Rattle.schema_tree.specs.Document.{IsReadAs}
use Rattle.plain_defs.specs.Plain.{IsPlain}
use Rattle.typify_run.specs.Headline.{IsReportOf, document_admits}
use Rattle.typify_run.specs.declared.report.Report.{Report}
use Rattle.value_texts.specs.Texts.{IsTextOf}
use Rattle.schema_words.specs.Said.{page}
use Rattle.describe_run.specs.Answers.{Describes}

-- The text is that of a value that is read under the strict setting as a document, which is plain at its own count of schemas, and which admits exactly the small values that
-- the document admits that the schema is under its setting.
pub record IsNormalForm (setting : Setting) (texts : Relations) (schema : Value) (text : List ℕ) : Type 0 where
  pub value : Data
  pub written : IsTextOf text value
  pub description : Document
  pub read : IsReadAs Strict (value_of value) description
  pub plain : IsPlain description (nodes description)
  pub document : Document
  pub source : document_of setting schema ≡ Some document
  pub alike : (v : Value) → IsSmall v → document_admits texts description v ≡ document_admits texts document v

abbrev pub DescriptionsAdmitAlike : Type 0
DescriptionsAdmitAlike =
    (setting : Setting) (texts : Relations) (schema : Value) (values : List Data) (r : Report) (text : List ℕ) → IsLawful texts → IsReportOf setting texts schema values r → r.notes.items ≡ []
    → Describes r (page text) → IsNormalForm setting texts schema text
