-- What a run on the sample of a number gives: the report on that document and those values, and its page.
use Rattle.std.specs.Prelude.{◌≡◌, ◌⊎◌, ℕ, zero, suc, List, [], ◌++◌, map, filter, length, Bool, true, false, Option, Some, None, codes, decimal}
use Rattle.serde_json.specs.Data.{Data}
use Rattle.run_io.specs.Bytes.{Appends, AppendsPrefix}
use Rattle.json_value.specs.View.{value_of}
use Rattle.schema_defs.specs.declared.Setting.TheVariants.{Strict}
use Rattle.schema_defs.specs.Texts.{Relations}
use Rattle.schema_defs.specs.Formats.{has_format}
use Rattle.schema_tree.specs.declared.fault.Fault.{Fault}
use Rattle.sample_inputs.specs.Sample.{sample_schema, sample_values, sample_depth}
use Rattle.derive_model.specs.VerdictView.{VerdictD, taken, refused, verdict_view}
use Rattle.typify_run.specs.Headline.{IsReportOf}
use Rattle.typify_run.specs.Examine.{IsEmission}
use Rattle.typify_run.specs.declared.report.Report.{Report}

-- a judge of texts that knows no pattern
abbrev pub bare_texts : Relations
bare_texts = record { is_pattern = λ p. false; matches = λ p s. false; has_format = has_format }

-- the report is one of that document and of those values, by such a judge, at the sample's depth, and has no note
pub record IsSampled (n : ℕ) (report : Report) : Type 0 where
  pub values : List Data
  pub are_values : map value_of values ≡ sample_values n
  pub is_report : IsReportOf Strict bare_texts (sample_schema n) values report
  pub is_emission : IsEmission Strict bare_texts (sample_depth n) (sample_schema n) report
  pub unnoted : report.notes.items ≡ []

-- ---- the page

abbrev pub is_taken : VerdictD → Bool
is_taken (taken d) = true
is_taken (refused l) = false

abbrev pub taken_count : List VerdictD → ℕ
taken_count vs = length (filter is_taken vs)

abbrev pub counts_page : ℕ → ℕ → ℕ → ℕ → List ℕ
counts_page n items notes verdicts =
    codes "sample " ++ decimal n ++ codes "\nitems " ++ decimal items ++ codes "\nnotes " ++ decimal notes ++ codes "\ntaken " ++ decimal verdicts ++ codes "\nend\n"

-- the number, and how many items, notes and taken values there are
abbrev pub sample_page : ℕ → Report → List ℕ
sample_page n r = counts_page n (length r.items.items) (length r.notes.items) (taken_count (map verdict_view r.verdicts.items))

-- ---- how a run ends

-- by status, and what is carried: the bytes written before and after. There is none but 0, 5 and 6
abbrev pub EndsSampled : ℕ → Option (List ℕ) → Option (List ℕ) → ℕ → Option Report → Option Fault → Type 0
EndsSampled n before after zero (Some r) None = IsSampled n r × Appends before after (sample_page n r)
EndsSampled n before after (suc (suc (suc (suc (suc zero))))) (Some r) None = IsSampled n r × AppendsPrefix before after (sample_page n r)
EndsSampled n before after (suc (suc (suc (suc (suc (suc zero)))))) None None = (after ≡ before) ⊎ ((r : Report) × IsSampled n r × AppendsPrefix before after (sample_page n r))
EndsSampled _ _ _ _ _ _ = ⊥
