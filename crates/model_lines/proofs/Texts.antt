-- The answer to one line: by what its text is, and by the verdict on its value.
use Rattle.std.proofs.Common.{◌≡◌, ◌≤◌, ℕ, List, length, map, Bool, true, Some, None, Ok, Err, refl, ap, sym, ◌∙◌, subst}
use Rattle.std.specs.Prelude.{Result, IfErr, IfOk, IsErrOf, IsUtf8}
use Rattle.std.specs.List.{list_all}
use Rattle.run_input.specs.declared.InputError.{InputError}
use Rattle.run_input.specs.declared.InputError.TheVariants.{NotJson}
use Rattle.serde_json.specs.View.{view}
use Rattle.serde_json.specs.declared.value.Value.{Value}
use Rattle.serde_json.specs.Data.{Data}
use Rattle.serde_json.specs.Read.{read as read_text}
use Rattle.json_value.specs.View.{value_of}
use Rattle.schema_defs.specs.Texts.{Relations}
use Rattle.schema_tree.specs.Fault.{fault_view}
use Rattle.schema_tree.specs.Numbers.{holds_i64_alone}
use Rattle.schema_tree.specs.Conversions.{conversions_view}
use Rattle.schema_tree.specs.declared.fault.Fault.{Fault}
use Rattle.model_defs.specs.Model.{ContainerModel, ConversionsD}
use Rattle.model_defs.specs.Reads.{reads}
use Rattle.model_defs.specs.Refusals.{refused_at}
use Rattle.model_defs.specs.Settled.{settled}
use Rattle.whole_numbers.specs.Whole.{whole}
use Rattle.derive_model.specs.Judging.{AreSound, IsVerdict}
use Rattle.derive_model.specs.ModuleView.{models_in, conversions_in}
use Rattle.derive_model.specs.VerdictView as verdict
use Rattle.derive_model.specs.VerdictView.{VerdictD}
use Rattle.derive_model.specs.declared.module.Module.{Module}
use Rattle.line_reader.specs.Lines.{bound}
use Rattle.line_answers.specs.Answers.{AnswerD, answer_line}
use Rattle.typify_run.specs.Examine.{as_it_stands, CanJudge}
use Rattle.typify_run.specs.Headline.{Deriving, IsJudged, items_of, models_of, read_of, report_reads, report_refuses, report_settles, root_of}
use Rattle.typify_run.specs.Page.{IsPrintable}
use Rattle.typify_run.specs.declared.report.Report.{Report}
use Rattle.typify_run.proofs.Judged.{printed, said}
use Rattle.model_lines.specs.Answers.{IsAnswer, IsAnswerText, IsJson, IsModuleOf, IsNotJson, IsVerdictOn, answer_of}

pub spoken_answer : {S E : Type 0} (bytes : S → List ℕ) (texts : Relations) (r : Report) (l : List ℕ) (i : ℕ) (x : AnswerD) → IsAnswer texts r l x → (a : Result S E) (b : Result S Fault)
    → IfOk a (λ s. bytes s ≡ answer_line i x) → IfOk b (λ s. a ≡ Ok s) → IfOk b (λ s. IsAnswerText texts r l i (bytes s))
spoken_answer bytes texts r l i x is a (Err f) h k = tt
spoken_answer bytes texts r l i x is (Ok s) (Ok t) h k = let e : t ≡ s = cc in (x, is, ap bytes e ∙ h)
spoken_answer bytes texts r l i x is (Err e) (Ok t) h k = cc

pub not_json_told : (bytes : List ℕ) → (IsUtf8 (whole bytes) → read_text (whole bytes) ≡ None) → IsNotJson bytes
not_json_told bytes h d j = let e : read_text (whole bytes) ≡ None = h j.0 in let k : Some d ≡ None = sym j.1 ∙ e in cc

module _ (texts : Relations) (r : Report) (m : Module) (judges : CanJudge texts r) (made : IsModuleOf m r) where
  abbrev containers : List ContainerModel
  containers = read_of as_it_stands (items_of r)

  abbrev table : ConversionsD
  table = conversions_view r.conversions

  pub sound_in : AreSound (models_in m) (conversions_in m) texts
  sound_in = subst (λ (ms : List ContainerModel). AreSound ms (conversions_in m) texts) (sym made.models) (subst (λ (cs : ConversionsD). AreSound containers cs texts) (sym made.conversions) judges.sound)

  module _ (d : Data) (v : VerdictD) (i : holds_i64_alone (value_of d) ≡ true) (h : IsVerdict (models_in m) (conversions_in m) texts (root_of r) (value_of d) v) where
    by_containers : IsVerdict containers table texts (root_of r) (value_of d) v
    by_containers =
        subst (λ (ms : List ContainerModel). IsVerdict ms table texts (root_of r) (value_of d) v) made.models
        (subst (λ (cs : ConversionsD). IsVerdict (models_in m) cs texts (root_of r) (value_of d) v) made.conversions h)

    pub is_printable : IsPrintable v
    is_printable = printed containers table texts (root_of r) d v judges.sound.numbers i by_containers

    judged : (how : Deriving) → IsJudged (report_reads texts r how) (report_settles texts r how) (report_refuses texts r how) d v
    judged how =
        subst (λ (ms : List ContainerModel). IsJudged (reads ms table texts (root_of r)) (settled ms table texts (root_of r)) (refused_at ms table texts (root_of r)) d v) (sym (judges.alike how))
        (said containers table texts (root_of r) d v by_containers)

    pub verdict_on : (l : List ℕ) → length l ≤ bound → IsJson l d → IsVerdictOn texts r l v
    verdict_on l short json = (short, (d, json, i, judged))

pub is_answer : (texts : Relations) (r : Report) (l : List ℕ) (v : VerdictD) → IsVerdictOn texts r l v → IsAnswer texts r l (answer_of v)
is_answer texts r l (verdict.taken w) h = h
is_answer texts r l (verdict.refused p) h = h

-- ---- the value of a line's bytes

pub json_when : (bytes l : List ℕ) → bytes ≡ l → length l ≤ bound → (a : Result Value InputError) → IfOk a (λ v. IsUtf8 (whole bytes) × (read_text (whole bytes) ≡ Some (view v))) → IfOk a (λ v. (length l ≤ bound) × IsJson l (view v))
json_when bytes l e short (Err x) h = tt
json_when bytes l e short (Ok v) h = (short, subst (λ (t : List ℕ). IsJson t (view v)) e h)

pub not_json_when : (bytes : List ℕ) (a : Result Value InputError) → IfErr a (λ e. e ≡ NotJson → IsUtf8 (whole bytes) → read_text (whole bytes) ≡ None) → IsErrOf a NotJson → IsNotJson bytes
not_json_when bytes (Ok v) h k = cc
not_json_when bytes (Err e) h k = let f : e ≡ NotJson = cc in not_json_told bytes (h f)
