-- The examination of a description, and what it says of what is described.
use Rattle.std.proofs.Common.{◌≡◌, ℕ, List, [], ◌∷◌, map, Bool, Some, sym, ap, subst, ◌∙◌}
use Rattle.serde_json.specs.Data.{Data}
use Rattle.json_value.specs.Value.{Value, IsSmall}
use Rattle.json_value.specs.View.{value_of}
use Rattle.syntax_trees.specs.Item.{ItemD}
use Rattle.schema_defs.specs.Location.{Location}
use Rattle.schema_defs.specs.declared.Setting.TheVariants.{Strict}
use Rattle.schema_defs.specs.Texts.{Relations, IsLawful}
use Rattle.schema_defs.specs.Schema.{Document}
use Rattle.schema_defs.specs.Admits.{admits}
use Rattle.model_defs.specs.Types.{TypeModel}
use Rattle.model_defs.specs.Model.{ConversionsD}
use Rattle.model_defs.specs.Reads.{reads}
use Rattle.describe_defs.specs.Written.{description_value}
use Rattle.derive_model.specs.VerdictView.{VerdictD, taken, refused, verdict_view}
use Rattle.model_describe.specs.Described.{models_in, IsPlainItems, IsDescription}
use Rattle.model_describe.specs.declared.errors.DescribeError.TheVariants.{Memory, NotPlain}
use Rattle.typify_run.specs.Examine.{as_it_stands}
use Rattle.typify_run.specs.Headline.{IsReportOf, AreJudged, report_reads, report_settles, report_refuses}
use Rattle.typify_run.specs.declared.report.Report.{Report}
use Rattle.model_redescribe.specs.Laws.{UnnotedAreDescribed}
use Rattle.model_redescribe.specs.Redescribed.{AreToldBy, ReadsAlike, IsPlainly, IsExamined, IsRedescribed, IsUnexamined, IsUnredescribed}
use Rattle.model_redescribe.specs.declared.errors.RedescribeError.{RedescribeError}
use Rattle.model_redescribe.specs.declared.errors.RedescribeError.TheVariants.{Describe, Examine}
use Rattle.model_redescribe.proofs.Again.{described_items}
use Rattle.model_redescribe.proofs.Counted.{same_document}

-- a verdict by one test says what another one says of small values, where both agree there
told_by : (takes others : Value → Bool) (settles : Value → Value) (stops : Value → Location) → ((v : Value) → IsSmall v → takes v ≡ others v) → (ds : List Data) (vs : List VerdictD)
    → AreJudged takes settles stops ds vs → AreToldBy others ds vs
told_by takes others settles stops same [] [] h = tt
told_by takes others settles stops same (d ∷ ds) (taken w ∷ vs) h = (λ small. sym (same (value_of d) small) ∙ h.0.0, told_by takes others settles stops same ds vs h.1)
told_by takes others settles stops same (d ∷ ds) (refused l ∷ vs) h = (λ small. sym (same (value_of d) small) ∙ h.0.0, told_by takes others settles stops same ds vs h.1)
told_by takes others settles stops same [] (v ∷ vs) h = absurd h
told_by takes others settles stops same (d ∷ ds) [] h = absurd h

module _ (k : ConversionsD) (is : List ItemD) (root : TypeModel) (v : Value) (desc : IsDescription k is root v) where
  plainly : IsPlainly v
  plainly = (desc.document, desc.read.read, desc.plain)

  pub redescribed : v ≡ description_value (models_in is) k root → (r : Relations) (values : List Data) (report : Report) → IsExamined r v values report → IsRedescribed k is root r values report
  redescribed same r values report e =
      let unnoted = e.1 plainly in
      let rep = e.0 in
      let alike : IsLawful r → ReadsAlike r report (reads (models_in is) k r root) = λ lawful. described_items k is root v desc r values report lawful rep unnoted in
      record {
        examined = subst (λ x. IsReportOf Strict r x values report) same rep;
        unnoted = unnoted;
        alike = alike;
        verdicts = λ lawful. told_by (report_reads r report as_it_stands) (reads (models_in is) k r root) (report_settles r report as_it_stands) (report_refuses r report as_it_stands) (alike lawful as_it_stands)
            values (map verdict_view report.verdicts.items) (rep.verdicts as_it_stands);
      }

  pub unredescribed : IsPlainItems k is root → (before after : ℕ) (values : List Data) (error : RedescribeError) → IsUnexamined before after v values error → IsUnredescribed k is root before after values error
  unredescribed items before after values (Describe Memory) h = tt
  unredescribed items before after values (Describe (NotPlain o)) h = absurd h
  unredescribed items before after values (Examine f) h = (items, h plainly)

-- ---- reports

some_same : (d e : Document) → Some d ≡ Some e → d ≡ e
some_same d e h = cc

pub unnoted_described : UnnotedAreDescribed
unnoted_described setting r schema description values report d e lawful rep none desc read again w small =
    ap (λ x. admits r x w x.root) (same_document description e desc.document again desc.read.read)
    ∙ desc.exact r w small
    ∙ rep.exact lawful none as_it_stands w small
    ∙ ap (λ x. admits r x w x.root) (some_same rep.document d (sym rep.is_read ∙ read))
