-- What a page says that says `covered`.
use Rattle.std.specs.Prelude.{◌≡◌, ℕ, List, [], true, Some}
use Rattle.json_value.specs.Value.{Value, IsSmall}
use Rattle.schema_defs.specs.declared.Setting.{Setting}
use Rattle.schema_defs.specs.Texts.{Relations, IsLawful}
use Rattle.schema_defs.specs.Schema.{Document}
use Rattle.schema_defs.specs.Read.{document_of}
use Rattle.typify_run.specs.Examine.{CanJudge}
use Rattle.typify_run.specs.Headline.{Deriving, IsReportOf, HasNone, IsNarrowed, IsWidened, document_admits, report_reads, report_settles}
use Rattle.typify_run.specs.declared.report.Report.{Report}
use Rattle.schema_words.specs.Said.{page}
use Rattle.covers_run.specs.Compares.{Compares}

-- by lawful texts, and however both are read: each value that the old items read, the new ones read as the old ones write it
abbrev pub NewItemsReadOldValues : Type 0
NewItemsReadOldValues =
    (texts : Relations) (old new : Report) (text : List ℕ) → IsLawful texts → CanJudge texts old → CanJudge texts new → Compares old new (page text)
    → (how how' : Deriving) (v : Value) → report_reads texts old how v ≡ true → report_reads texts new how' (report_settles texts old how v) ≡ true

-- The schemas are documents, and each small value that the old one admits settles to one that the new one admits, where that is small.
pub record IsStillAdmitted (setting : Setting) (texts : Relations) (old_schema new_schema : Value) (old : Report) : Type 0 where
  pub old_document : Document
  pub old_read : document_of setting old_schema ≡ Some old_document
  pub new_document : Document
  pub new_read : document_of setting new_schema ≡ Some new_document
  pub admitted : (how : Deriving) (v : Value) → IsSmall v → IsSmall (report_settles texts old how v) → document_admits texts old_document v ≡ true → document_admits texts new_document (report_settles texts old how v) ≡ true

-- So it is where the old report has no note that its items are narrower, and the new one none that they are wider.
abbrev pub OldValuesAreStillAdmitted : Type 0
OldValuesAreStillAdmitted =
    (setting : Setting) (texts : Relations) (old_schema new_schema : Value) (old new : Report) (text : List ℕ) → IsLawful texts
    → IsReportOf setting texts old_schema [] old → CanJudge texts old → HasNone IsNarrowed old.notes.items
    → IsReportOf setting texts new_schema [] new → CanJudge texts new → HasNone IsWidened new.notes.items
    → Compares old new (page text) → IsStillAdmitted setting texts old_schema new_schema old
