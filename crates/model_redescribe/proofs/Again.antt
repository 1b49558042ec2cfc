-- What comes of a description reads what is described.
use Rattle.std.proofs.Common.{◌≡◌, List, [], map, Some, ap, subst, ◌∙◌}
use Rattle.serde_json.specs.Data.{Data}
use Rattle.json_value.specs.Value.{Value, IsSmall}
use Rattle.schema_defs.specs.declared.Setting.TheVariants.{Strict}
use Rattle.schema_defs.specs.Texts.{Relations, IsLawful}
use Rattle.schema_defs.specs.Schema.{Document}
use Rattle.schema_defs.specs.Admits.{admits}
use Rattle.schema_defs.specs.Read.{document_of}
use Rattle.schema_defs.specs.Counts.{nodes}
use Rattle.model_defs.specs.Types.{TypeModel}
use Rattle.model_defs.specs.Model.{ContainerModel, ConversionsD}
use Rattle.model_defs.specs.Reads.{reads}
use Rattle.describe_defs.specs.Description.{description}
use Rattle.describe_defs.specs.Written.{description_value}
use Rattle.describe_defs.proofs.Exact.{descriptions_exact}
use Rattle.describe_defs.proofs.WrittenDocument.{descriptions_written}
use Rattle.describe_laws.proofs.PlainDocument.{descriptions_plain}
use Rattle.convert_document.specs.Levels.{most_levels}
use Rattle.convert_document.specs.Note.{note_of}
use Rattle.plain_defs.specs.Plain.{IsPlain}
use Rattle.plain_laws.proofs.Documents.{plain_is_unnoted}
use Rattle.model_describe.specs.Described.{models_in}
use Rattle.typify_run.specs.Headline.{IsReportOf}
use Rattle.typify_run.specs.declared.report.Report.{Report}
use Rattle.model_redescribe.specs.Laws.{DescribedTwiceReadsTheSame, DescribedItemsReadTheSame, DescriptionsAreUnnoted}
use Rattle.model_redescribe.specs.Redescribed.{ReadsAlike}
use Rattle.model_redescribe.proofs.Counted.{same_document}

-- of a value that is read as a document that admits what a table reads
pub read_alike : (r : Relations) (models : List ContainerModel) (k : ConversionsD) (root : TypeModel) (v : Value) (d : Document) → document_of Strict v ≡ Some d
    → ((w : Value) → IsSmall w → admits r d w d.root ≡ reads models k r root w)
    → (values : List Data) (report : Report) → IsLawful r → IsReportOf Strict r v values report → report.notes.items ≡ [] → ReadsAlike r report (reads models k r root)
read_alike r models k root v d read exact values report lawful rep none = λ how w small.
    rep.exact lawful none how w small ∙ ap (λ d. admits r d w d.root) (same_document v rep.document d rep.is_read read) ∙ exact w small

pub described_twice : DescribedTwiceReadsTheSame
described_twice models k root plain sizes r values report lawful rep none =
    read_alike r models k root (description_value models k root) (description models k root) (descriptions_written models k root plain sizes) (λ w small. descriptions_exact models k root plain r w small)
    values report lawful rep none

pub described_items : DescribedItemsReadTheSame
described_items k is root v desc r values report lawful rep none =
    read_alike r (models_in is) k root v desc.document desc.read.read (λ w small. desc.exact r w small) values report lawful rep none

pub descriptions_unnoted : DescriptionsAreUnnoted
descriptions_unnoted models k root plain sizes r depth report within e =
    let most = nodes (description models k root) in
    let same = same_document (description_value models k root) (description models k root) e.document (descriptions_written models k root plain sizes) e.is_read.read in
    e.notes ∙ ap (map note_of) (plain_is_unnoted r e.document most depth most_levels (subst (λ d. IsPlain d most) same (descriptions_plain models k root plain)) within)
