-- What is printed by `example`, and what the schema admits.
use Rattle.std.specs.Prelude.{◌≡◌, ℕ, List, codes, true, false, Some}
use Rattle.serde_json.specs.Data.{Data}
use Rattle.json_value.specs.Value.{Value, IsSmall}
use Rattle.json_value.specs.View.{value_of}
use Rattle.schema_defs.specs.declared.Setting.{Setting}
use Rattle.schema_defs.specs.Texts.{Relations, IsLawful}
use Rattle.schema_defs.specs.Schema.{Document}
use Rattle.schema_defs.specs.Read.{document_of}
use Rattle.typify_run.specs.Headline.{HasNone, IsNarrowed, IsWidened, IsReportOf, document_admits}
use Rattle.typify_run.specs.declared.report.Report.{Report}
use Rattle.value_texts.specs.Texts.{IsTextOf}
use Rattle.schema_words.specs.Said.{page, no}
use Rattle.example_run.specs.Answers.{Exemplifies}

-- The text is that of a small value, which the document admits that the schema is under its setting.
pub record IsAdmitted (setting : Setting) (texts : Relations) (schema : Value) (text : List ℕ) : Type 0 where
  pub value : Data
  pub written : IsTextOf text value
  pub small : IsSmall (value_of value)
  pub document : Document
  pub source : document_of setting schema ≡ Some document
  pub admitted : document_admits texts document (value_of value) ≡ true

-- The document that the schema is under its setting admits no small value.
pub record AdmitsNone (setting : Setting) (texts : Relations) (schema : Value) : Type 0 where
  pub document : Document
  pub source : document_of setting schema ≡ Some document
  pub none : (v : Value) → IsSmall v → document_admits texts document v ≡ false

-- a value printed, where no note says that the items are wider
abbrev pub ExamplesAreAdmitted : Type 0
ExamplesAreAdmitted =
    (setting : Setting) (texts : Relations) (schema : Value) (values : List Data) (r : Report) (text : List ℕ) → IsLawful texts → IsReportOf setting texts schema values r
    → HasNone IsWidened r.notes.items → Exemplifies r (page text) → IsAdmitted setting texts schema text

-- the line `none`, where no note says that they are narrower
abbrev pub NoneIsAdmitted : Type 0
NoneIsAdmitted =
    (setting : Setting) (texts : Relations) (schema : Value) (values : List Data) (r : Report) → IsLawful texts → IsReportOf setting texts schema values r → HasNone IsNarrowed r.notes.items
    → Exemplifies r (no (codes "none\n")) → AdmitsNone setting texts schema
