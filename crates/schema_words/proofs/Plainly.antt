-- How a word ends whose schema is plain.
use Rattle.std.specs.Prelude.{nat_le}
use Rattle.std.proofs.Common.{◌≡◌, ◌≢◌, ◌⊎◌, inl, inr, ℕ, List, [], Bool, true, false, ◌&&◌, true≢false, Option, None, refl, sym, ap, subst}
use Rattle.serde_json.specs.Data.{Data}
use Rattle.run_io.specs.Bytes.{Appends}
use Rattle.json_value.specs.Value.{Value}
use Rattle.json_value.specs.View.{value_of}
use Rattle.schema_tree.specs.Fault.{fault_view}
use Rattle.schema_tree.specs.declared.fault.Fault.{Fault}
use Rattle.schema_defs.specs.Faults.{Rises}
use Rattle.schema_defs.specs.declared.Setting.{Setting}
use Rattle.schema_defs.specs.Texts.{Relations}
use Rattle.schema_defs.specs.Counts.{nodes}
use Rattle.schema_defs.specs.References.{is_guarded}
use Rattle.typify_run.specs.Call.{or_zero}
use Rattle.typify_run.specs.PlainInputs.{IsPlainInput}
use Rattle.typify_run.specs.declared.report.Report.{Report}
use Rattle.schema_words.specs.Input.{IsSchema}
use Rattle.schema_words.specs.Words.{Asking, asking_of, depth_behind}
use Rattle.schema_words.specs.Said.{Said, page, no}
use Rattle.schema_words.specs.Outcome.{Ends, EndsWord, IsAnswered, IsAnswerTo, IsCaused, IsPlainSchema, IsReportOn, IsToldOf}
use Rattle.schema_words.specs.PlainSchemas.{IsFailureTold, IsUnnotedAnswer, EndsPlainly}
use Rattle.schema_words.specs.declared.ended.Ended.{Ended}
use Rattle.schema_words.specs.declared.ended.Ended.TheVariants as ended
use Rattle.schema_words.proofs.Endings.{one_schema}

module _ (answers : Data → Report → Said → Type 0) (tells : Data → Fault → List ℕ → Type 0) (c : Asking) (all : List ℕ) (d : Data) (input : IsSchema all d) (p : IsPlainSchema c (value_of d)) (before after : Option (List ℕ)) where
  failure_told : (text : List ℕ) → IsToldOf tells c all text → Appends before after text → IsFailureTold answers tells c d before after
  failure_told text h w =
      let caused : IsCaused c (value_of d) (fault_view h.1) = subst (λ (e : Data). IsCaused c (value_of e) (fault_view h.1)) (one_schema all h.0 d h.2 input) h.3 in
      (text, h.1, caused.2 p, subst (λ (e : Data). tells e h.1 text) (one_schema all h.0 d h.2 input) h.4, w)

  answered : (said : List ℕ → Said) (text : List ℕ) → IsAnswerTo answers c all (said text) → Appends before after text → IsUnnotedAnswer answers tells c d before after said
  answered said text h w =
      let on : IsReportOn c (value_of d) h.1 = subst (λ (e : Data). IsReportOn c (value_of e) h.1) (one_schema all h.0 d h.2 input) h.3 in
      (text, h.1, on, on.unnoted p, subst (λ (e : Data). answers e h.1 (said text)) (one_schema all h.0 d h.2 input) h.4, w)

  ends_plainly_in : (end : Ended) → Ends answers tells c all before after end → EndsPlainly answers tells c d before after end
  ends_plainly_in ended.Page h = answered page h.0 h.1 h.2
  ends_plainly_in ended.Fault h = failure_told h.0 h.1 h.2
  ends_plainly_in ended.OtherWords h = absurd h
  ends_plainly_in ended.NoInput h = absurd (h.0 d input)
  ends_plainly_in ended.ReadFault h = tt
  ends_plainly_in ended.WriteFault h = tt
  ends_plainly_in ended.Memory h = tt
  ends_plainly_in ended.No h = answered no h.0 h.1 h.2

  pub ends_plainly : (end : Ended) → EndsWord answers tells c all before after end → end ≢ ended.OtherWords → EndsPlainly answers tells c d before after end
  ends_plainly end (inl h) words = by h.0
    where
      by : (end ≡ ended.OtherWords) ⊎ (end ≡ ended.ReadFault) → EndsPlainly answers tells c d before after end
      by (inl e) = absurd (words e)
      by (inr e) = subst (λ (o : Ended). EndsPlainly answers tells c d before after o) (sym e) tt
  ends_plainly end (inr h) words = ends_plainly_in end h

-- ---- where nothing disturbs it

pub plainly_undisturbed : (answers : Data → Report → Said → Type 0) (tells : Data → Fault → List ℕ → Type 0) (c : Asking) (d : Data) (before after : Option (List ℕ)) (end : Ended) → EndsPlainly answers tells c d before after end → end ≢ ended.ReadFault → end ≢ ended.WriteFault
    → (Rises c.before c.after → ⊥) → IsAnswered end
plainly_undisturbed answers tells c d before after ended.Page h reads writes judge = inl refl
plainly_undisturbed answers tells c d before after ended.Fault h reads writes judge = absurd (judge h.2.1.2.3)
plainly_undisturbed answers tells c d before after ended.OtherWords h reads writes judge = absurd h
plainly_undisturbed answers tells c d before after ended.NoInput h reads writes judge = absurd h
plainly_undisturbed answers tells c d before after ended.ReadFault h reads writes judge = absurd (reads refl)
plainly_undisturbed answers tells c d before after ended.WriteFault h reads writes judge = absurd (writes refl)
plainly_undisturbed answers tells c d before after ended.Memory h reads writes judge = inr (inr refl)
plainly_undisturbed answers tells c d before after ended.No h reads writes judge = inr (inl refl)

-- ---- other words

no_rows : (a b : Bool) → (a && (b && false)) ≡ true → ⊥
no_rows true true h = absurd (true≢false (sym h))
no_rows true false h = absurd (true≢false (sym h))
no_rows false b h = absurd (true≢false (sym h))

no_depth : (setting : Setting) (schema : Value) → IsPlainInput setting 0 schema [] → ⊥
no_depth setting schema p = no_rows (is_guarded p.document) (nat_le (nodes p.document) 0) p.plain

-- where no depth is said nothing is plain
pub unasked : (word : List ℕ) (words : List (List ℕ)) (texts : Relations) (before after : ℕ) (schema : Value) → None ≡ depth_behind word words → IsPlainSchema (asking_of word words texts before after) schema → ⊥
unasked word words texts before after schema e p =
    let c : Asking = asking_of word words texts before after in
    no_depth c.setting schema (subst (λ (n : ℕ). IsPlainInput c.setting n schema []) (sym (ap or_zero e)) p)
