-- Descriptions of what is emitted for a schema, and what is emitted for descriptions.
use Rattle.std.specs.Prelude.{◌≡◌, ℕ, ◌≤◌, List, [], Some}
use Rattle.serde_json.specs.Data.{Data}
use Rattle.json_value.specs.Value.{Value, IsSmall}
use Rattle.schema_defs.specs.declared.Setting.{Setting}
use Rattle.schema_defs.specs.declared.Setting.TheVariants.{Strict}
use Rattle.schema_defs.specs.Texts.{Relations, IsLawful}
use Rattle.schema_defs.specs.Schema.{Document}
use Rattle.schema_defs.specs.Read.{document_of}
use Rattle.schema_defs.specs.Counts.{nodes}
use Rattle.syntax_trees.specs.Item.{ItemD}
use Rattle.model_defs.specs.Types.{TypeModel}
use Rattle.model_defs.specs.Model.{ContainerModel, ConversionsD}
use Rattle.model_defs.specs.Reads.{reads}
use Rattle.describe_defs.specs.Plain.{IsPlainTable}
use Rattle.describe_defs.specs.Description.{description}
use Rattle.describe_defs.specs.Written.{description_value, HasSizes}
use Rattle.conversion_table.specs.Conversions.{conversions_view}
use Rattle.model_describe.specs.Described.{models_in, IsDescription}
use Rattle.typify_run.specs.Examine.{IsEmission}
use Rattle.typify_run.specs.Headline.{IsReportOf, document_admits, emission_in, items_of, root_of}
use Rattle.typify_run.specs.declared.report.Report.{Report}
use Rattle.model_redescribe.specs.Redescribed.{ReadsAlike}

-- where a report has no notes, a value that describes its items is read as a document that admits exactly the small values that the schema admits
abbrev pub UnnotedAreDescribed : Type 0
UnnotedAreDescribed =
    (setting : Setting) (r : Relations) (schema description : Value) (values : List Data) (report : Report) (d e : Document) → IsLawful r
    → IsReportOf setting r schema values report → report.notes.items ≡ [] → IsDescription (conversions_view report.conversions) (items_of report) (root_of report) description
    → document_of setting schema ≡ Some d → document_of Strict description ≡ Some e → (v : Value) → IsSmall v → document_admits r e v ≡ document_admits r d v

-- ---- reports on one schema

-- with the same items, the same table of conversions, the same root and the same notes
pub record SayTheSame (a b : Report) : Type 0 where
  pub emission : emission_in a ≡ emission_in b
  pub notes : a.notes.items ≡ b.notes.items

-- at one depth, under one setting and by one judge of texts, whatever values are asked: so what `check` tells of notes holds of the report whose items are described
abbrev pub ReportsAgree : Type 0
ReportsAgree = (setting : Setting) (r : Relations) (depth : ℕ) (schema : Value) (a b : Report) → IsEmission setting r depth schema a → IsEmission setting r depth schema b → SayTheSame a b

-- ---- described twice

-- Where a report of the value that describes a plain table has no notes, the containers that its items are read back as read exactly the small values that the table reads,
-- listed or not, by every lawful judge of texts.
abbrev pub DescribedTwiceReadsTheSame : Type 0
DescribedTwiceReadsTheSame =
    (models : List ContainerModel) (conversions : ConversionsD) (root : TypeModel) → IsPlainTable models conversions root → HasSizes conversions
    → (r : Relations) (values : List Data) (report : Report) → IsLawful r → IsReportOf Strict r (description_value models conversions root) values report → report.notes.items ≡ []
    → ReadsAlike r report (reads models conversions r root)

-- of items: so it is of whatever value describes them
abbrev pub DescribedItemsReadTheSame : Type 0
DescribedItemsReadTheSame =
    (conversions : ConversionsD) (is : List ItemD) (root : TypeModel) (v : Value) → IsDescription conversions is root v
    → (r : Relations) (values : List Data) (report : Report) → IsLawful r → IsReportOf Strict r v values report → report.notes.items ≡ []
    → ReadsAlike r report (reads (models_in is) conversions r root)

-- at a depth of at least as many schemas as stand in the description, no note is left
abbrev pub DescriptionsAreUnnoted : Type 0
DescriptionsAreUnnoted =
    (models : List ContainerModel) (conversions : ConversionsD) (root : TypeModel) → IsPlainTable models conversions root → HasSizes conversions
    → (r : Relations) (depth : ℕ) (report : Report) → nodes (description models conversions root) ≤ depth → IsEmission Strict r depth (description_value models conversions root) report
    → report.notes.items ≡ []
