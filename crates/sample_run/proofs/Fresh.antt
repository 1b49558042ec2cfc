-- The sample, examined by a judge of texts that knows no pattern: there is no note, and no fault but want of memory.
use Rattle.std.proofs.Common.{◌≡◌, ◌⊎◌, inl, inr, ℕ, zero, suc, ◌+◌, ◌%◌, ◌==◌, ◌<◌, ◌≤◌, ◌^◌, List, [], ◌∷◌, map, Bool, true, false, ◌&&◌, pos, refl, ap, subst, ◌∙◌, arith}
use Rattle.std.specs.List.{list_all}
use Rattle.std.proofs.lemmas.Int.{ints}
use Rattle.serde_json.specs.Data.{Data}
use Rattle.serde_json.specs.View.{view}
use Rattle.serde_json.specs.declared.value.Value as value'
use Rattle.json_value.specs.Value.{Value}
use Rattle.json_value.specs.View.{value_of, kept_view}
use Rattle.schema_defs.specs.Faults.{Rises}
use Rattle.schema_defs.specs.Formats.{has_format}
use Rattle.schema_defs.specs.Read.{document_of}
use Rattle.schema_defs.specs.Texts.{Relations}
use Rattle.schema_defs.specs.declared.Setting.TheVariants.{Strict}
use Rattle.schema_texts.specs.Table.{plain_relations}
use Rattle.schema_texts.specs.declared.plain.PlainTexts.{PlainTexts}
use Rattle.schema_tree.specs.Fault.{FaultD, memory}
use Rattle.schema_tree.specs.Numbers.{fits_i64, holds_i64_alone, are_i64}
use Rattle.sample_inputs.specs.Sample.{numbers_from, sample_schema, sample_values, sample_value, sample_depth, nest}
use Rattle.sample_inputs.specs.Document.{sample_document}
use Rattle.sample_inputs.proofs.Plainly.{samples_plain}
use Rattle.typify_run.specs.Headline.{IsReportOf}
use Rattle.typify_run.specs.Examine.{IsEmission, IsTextsFault}
use Rattle.typify_run.specs.PlainInputs.{IsPlainInput, IsRefusedPlainly}
use Rattle.typify_run.specs.declared.report.Report.{Report}
use Rattle.sample_run.specs.Sampled.{bare_texts, IsSampled}

-- ---- a judge without a pattern

pub bare : (t : PlainTexts) → ((p : List ℕ) → (plain_relations t).is_pattern p ≡ false) → ((p s : List ℕ) → (plain_relations t).matches p s ≡ false) → plain_relations t ≡ bare_texts
bare t h k = λ i. record { is_pattern = λ p. h p i; matches = λ p s. k p s i; has_format = has_format }

never_rises : Rises 0 0 → ⊥
never_rises (inl h) = absurd (omega (arith, h))
never_rises (inr h) = absurd (omega (arith, h))

-- ---- numbers

fits : (n : ℕ) → n < 2 ^ 32 → fits_i64 (pos n) ≡ true
fits n h = grind (arith, ints, h)

nest_small : (levels id : ℕ) (m : Bool) → id + levels < 2 ^ 32 → holds_i64_alone (nest levels id m) ≡ true
nest_small zero id true h = (λ t. fits id (omega (arith, h)) t && true) ∙ refl
nest_small zero id false h = (λ t. fits id (omega (arith, h)) t && true) ∙ refl
nest_small (suc levels) id m h = (λ t. fits id (omega (arith, h)) t && (nest_small levels (suc id) m (omega (arith, h)) t && true))

values_small : (i m : ℕ) → i + m ≤ 999 → list_all holds_i64_alone (map sample_value (numbers_from i m)) ≡ true
values_small i zero h = refl
values_small i (suc m) h = (λ t. nest_small (i % 16) i (i % 5 == 4) (omega (arith, h)) t && values_small (suc i) m (omega (arith, h)) t)

pub kept : (vs : List value'.Value) → map value_of (map view vs) ≡ map kept_view vs
kept [] = refl
kept (v ∷ vs) = ap (λ ds. kept_view v ∷ ds) (kept vs)

as_values : (ds : List Data) → are_i64 ds ≡ list_all holds_i64_alone (map value_of ds)
as_values [] = refl
as_values (d ∷ ds) = ap (λ b. holds_i64_alone (value_of d) && b) (as_values ds)

-- ---- what is examined

module _ (n : ℕ) (from : 1 ≤ n) (to : n ≤ 999) (schema : Value) (ds : List Data) (s : schema ≡ sample_schema n) (v : map value_of ds ≡ sample_values n) where
  abbrev depth : ℕ
  depth = sample_depth n

  pub plain_input : IsPlainInput Strict depth schema ds
  plain_input =
      let p = samples_plain n from (omega (arith, to)) in
      record {
        document = sample_document n;
        read = ap (document_of Strict) s ∙ p.0;
        plain = p.1;
        small = as_values ds ∙ ap (list_all holds_i64_alone) v ∙ values_small 0 n (omega (arith, to));
      }

  module _ (r : Relations) (fresh : r ≡ bare_texts) where
    pub sampled : (report : Report) → IsReportOf Strict r schema ds report → IsEmission Strict r depth schema report → (IsPlainInput Strict depth schema ds → report.notes.items ≡ []) → IsSampled n report
    sampled report h e u = record {
      values = ds;
      are_values = v;
      is_report = subst (λ z. IsReportOf Strict bare_texts z ds report) s (subst (λ z. IsReportOf Strict z schema ds report) fresh h);
      is_emission = subst (λ z. IsEmission Strict bare_texts depth z report) s (subst (λ z. IsEmission Strict z depth schema report) fresh e);
      unnoted = u plain_input;
    }

    pub memory_alone : (f : FaultD) → IsRefusedPlainly Strict r depth 0 0 schema ds f → f ≡ memory
    memory_alone f h = by (h plain_input)
      where
        by : (f ≡ memory) ⊎ IsTextsFault Strict r depth 0 0 schema ds f → f ≡ memory
        by (inl m) = m
        by (inr t) = absurd (never_rises t.1.2.3)
