-- How a word ends whose text was printed, and what each end says of its input.
use Rattle.std.proofs.Common.{◌≡◌, ◌≢◌, ◌≤◌, ◌⊎◌, arith, inl, inr, ℕ, List, [], true, false, true≢false, Option, Some, refl, sym, subst, ◌∙◌}
use Rattle.std.proofs.lemmas.Option.{same_Some}
use Rattle.serde_json.specs.Data.{Data}
use Rattle.run_io.specs.Bytes.{AppendsPrefix}
use Rattle.json_value.specs.Value.{Value}
use Rattle.json_value.specs.View.{value_of}
use Rattle.schema_defs.specs.Faults.{Rises}
use Rattle.schema_defs.specs.declared.Setting.{Setting}
use Rattle.schema_defs.specs.Texts.{Relations}
use Rattle.schema_tree.specs.Document.{IsAccepted}
use Rattle.schema_tree.specs.Fault.{FaultD, memory, fault_view}
use Rattle.schema_tree.specs.declared.fault.Fault.{Fault}
use Rattle.typify_run.specs.Call.{or_zero}
use Rattle.typify_run.specs.Headline.{IsReportOf}
use Rattle.typify_run.specs.Examine.{is_examined, CanJudge, IsEmission, IsRefusal, IsTextsFault}
use Rattle.typify_run.specs.PlainInputs.{IsPlainInput, IsRefusedPlainly}
use Rattle.typify_run.specs.declared.report.Report.{Report}
use Rattle.typify_run.proofs.Causes.{no_cause}
use Rattle.schema_words.specs.Input.{IsSchema, IsNoSchema}
use Rattle.schema_words.specs.Words.{Asking, asking, asking_of, depth_behind}
use Rattle.typify_run.specs.Words.{setting_said}
use Rattle.schema_words.specs.Said.{Said, page, no}
use Rattle.schema_words.specs.Outcome.{EndsIn, EndsWord, EndsWordIn, IsAnswered, IsAnswerTo, IsAside, IsCauseIn, IsCaused, IsFailureAt, IsFaultless, IsLinePrinted, IsReportOn, IsSaid, IsTextIn, IsToldOf, IsToldPrinted, is_built}
use Rattle.schema_words.specs.declared.ended.Ended.{Ended}
use Rattle.schema_words.specs.declared.ended.Ended.TheVariants as ended

-- bytes are one value
pub one_schema : (all : List ℕ) (d e : Data) → IsSchema all d → IsSchema all e → d ≡ e
one_schema all d e a b = same_Some d e (sym a.read ∙ b.read)

-- what the words ask for is what was made of them
pub same_asking : (word : List ℕ) (words : List (List ℕ)) (n : ℕ) (s : Setting) (t : Relations) (b a : ℕ) → Some n ≡ depth_behind word words → s ≡ setting_said words → asking n s t b a ≡ asking_of word words t b a
same_asking word words n s t b a e q = λ i. asking (or_zero (e i)) (q i) t b a

-- ---- what is examined without values

module _ (c : Asking) (schema : Value) (ds : List Data) (none : ds ≡ []) where
  pub report_on : (r : Report) → IsReportOf c.setting c.texts schema ds r → is_examined c.setting c.texts c.depth schema ds ≡ true → IsAccepted schema → IsEmission c.setting c.texts c.depth schema r → CanJudge c.texts r
      → (IsPlainInput c.setting c.depth schema ds → r.notes.items ≡ []) → IsReportOn c schema r
  report_on r h e a m j u = record {
    report = subst (λ (ds : List Data). IsReportOf c.setting c.texts schema ds r) none h;
    built = subst (λ (ds : List Data). is_examined c.setting c.texts c.depth schema ds ≡ true) none e;
    accepted = a;
    emission = m;
    judges = j;
    unnoted = subst (λ (ds : List Data). IsPlainInput c.setting c.depth schema ds → r.notes.items ≡ []) none u;
  }

  -- a count that rose rose from any that isn't greater
  pub caused_by : (now : ℕ) (f : FaultD) → f ≢ memory → c.before ≤ now → IsRefusal c.setting c.texts c.depth now c.after schema ds f → IsRefusedPlainly c.setting c.texts c.depth now c.after schema ds f → IsCaused c schema f
  caused_by now f other le h q = (
    other,
    by (subst (λ (ds : List Data). IsRefusal c.setting c.texts c.depth now c.after schema ds f) none h),
    λ p. told (subst (λ (ds : List Data). IsRefusedPlainly c.setting c.texts c.depth now c.after schema ds f) none q p),
  )
    where
      rises : Rises now c.after → Rises c.before c.after
      rises (inl l) = inl (omega (arith, le, l))
      rises (inr e) = inr e

      failed : IsTextsFault c.setting c.texts c.depth now c.after schema [] f → IsFailureAt c schema f
      failed t = (t.0, (t.1.0, t.1.1, (t.1.2.0, t.1.2.1, t.1.2.2, rises t.1.2.3)))

      by : IsRefusal c.setting c.texts c.depth now c.after schema [] f → IsFailureAt c schema f ⊎ IsCauseIn c schema f
      by (inl m) = absurd (other m)
      by (inr (inl t)) = inl (failed t)
      by (inr (inr k)) = inr k

      told : (f ≡ memory) ⊎ IsTextsFault c.setting c.texts c.depth now c.after schema [] f → IsFailureAt c schema f
      told (inl m) = absurd (other m)
      told (inr t) = failed t

-- ---- by what is printed

module _ (Answers : List ℕ → Said → Type 0) (Lines : List ℕ → List ℕ → Type 0) (IsNone : List ℕ → Type 0) (all : List ℕ) (before after : Option (List ℕ)) where
  abbrev Meets : Ended → Type 0
  Meets end = EndsIn Answers Lines IsNone all before after end

  as_ended : (end other : Ended) → end ≡ other → Meets other → Meets end
  as_ended end other e h = subst (λ (o : Ended). Meets o) (sym e) h

  cut : (text : List ℕ) (end : Ended) → IsTextIn Answers Lines all text → (end ≡ ended.WriteFault) ⊎ (end ≡ ended.Memory) → AppendsPrefix before after text → Meets end
  cut text end h (inl e) w = as_ended end ended.WriteFault e (text, h, w)
  cut text end h (inr e) w = as_ended end ended.Memory e (inr (text, h, w))

  pub said_ends : (said : Said) (end : Ended) → Answers all said → IsSaid before after said end → Meets end
  said_ends (page text) end h (inl w) = as_ended end ended.Page w.0 (text, h, w.1)
  said_ends (page text) end h (inr w) = cut text end (inl h) w.0 w.1
  said_ends (no text) end h (inl w) = as_ended end ended.No w.0 (text, h, w.1)
  said_ends (no text) end h (inr w) = cut text end (inr (inl h)) w.0 w.1

  pub line_ends : (text : List ℕ) (end : Ended) → Lines all text → IsLinePrinted before after text end → Meets end
  line_ends text end h (inl m) = as_ended end ended.Memory m.0 (inl m.1)
  line_ends text end h (inr (inl w)) = as_ended end ended.Fault w.0 (text, h, w.1)
  line_ends text end h (inr (inr w)) = cut text end (inr (inr h)) w.0 w.1

  pub told_ends : (Tells : List ℕ → Type 0) (end : Ended) → ((text : List ℕ) → Tells text → Lines all text) → IsToldPrinted Tells before after end → Meets end
  told_ends Tells end f (inl m) = as_ended end ended.Memory m.0 (inl m.1)
  told_ends Tells end f (inr (text, h, inl w)) = as_ended end ended.Fault w.0 (text, f text h, w.1)
  told_ends Tells end f (inr (text, h, inr w)) = cut text end (inr (inr (f text h))) w.0 w.1

  -- ---- ends that say nothing of an input

  pub never_other : (end : Ended) → Meets end → end ≢ ended.OtherWords
  never_other end h e = subst (λ (o : Ended). Meets o) e h

  pub never_unread : (end : Ended) → Meets end → end ≢ ended.ReadFault
  never_unread end h e = subst (λ (o : Ended). Meets o) e h

  -- ---- what the input says of the end

  -- nothing is answered of it, and no line names a fault of it
  none_in : ((said : Said) → Answers all said → ⊥) → ((text : List ℕ) → Lines all text → ⊥) → (end : Ended) → Meets end → (end ≡ ended.NoInput) ⊎ IsAside end
  none_in silent faultless ended.Page h = absurd (silent (page h.0) h.1)
  none_in silent faultless ended.Fault h = absurd (faultless h.0 h.1)
  none_in silent faultless ended.OtherWords h = absurd h
  none_in silent faultless ended.NoInput h = inl refl
  none_in silent faultless ended.ReadFault h = absurd h
  none_in silent faultless ended.WriteFault h = inr (inr (inr (inl refl)))
  none_in silent faultless ended.Memory h = inr (inr (inr (inr refl)))
  none_in silent faultless ended.No h = absurd (silent (no h.0) h.1)

  pub none_ends : ((said : Said) → Answers all said → ⊥) → ((text : List ℕ) → Lines all text → ⊥) → (end : Ended) → EndsWordIn Answers Lines IsNone all before after end → (end ≡ ended.NoInput) ⊎ IsAside end
  none_ends silent faultless end (inl h) = by h.0
    where
      by : (end ≡ ended.OtherWords) ⊎ (end ≡ ended.ReadFault) → (end ≡ ended.NoInput) ⊎ IsAside end
      by (inl e) = inr (inl e)
      by (inr e) = inr (inr (inl e))
  none_ends silent faultless end (inr h) = none_in silent faultless end h

  module _ (some : IsNone all → ⊥) where
    -- nothing is answered of it
    silent_in : ((said : Said) → Answers all said → ⊥) → (end : Ended) → Meets end → (end ≡ ended.Fault) ⊎ IsAside end
    silent_in silent ended.Page h = absurd (silent (page h.0) h.1)
    silent_in silent ended.Fault h = inl refl
    silent_in silent ended.OtherWords h = absurd h
    silent_in silent ended.NoInput h = absurd (some h.0)
    silent_in silent ended.ReadFault h = absurd h
    silent_in silent ended.WriteFault h = inr (inr (inr (inl refl)))
    silent_in silent ended.Memory h = inr (inr (inr (inr refl)))
    silent_in silent ended.No h = absurd (silent (no h.0) h.1)

    pub silent_ends : ((said : Said) → Answers all said → ⊥) → (end : Ended) → EndsWordIn Answers Lines IsNone all before after end → (end ≡ ended.Fault) ⊎ IsAside end
    silent_ends silent end (inl h) = by h.0
      where
        by : (end ≡ ended.OtherWords) ⊎ (end ≡ ended.ReadFault) → (end ≡ ended.Fault) ⊎ IsAside end
        by (inl e) = inr (inl e)
        by (inr e) = inr (inr (inl e))
    silent_ends silent end (inr h) = silent_in silent end h

    -- no line names a fault of it
    faultless_in : ((text : List ℕ) → Lines all text → ⊥) → (end : Ended) → Meets end → end ≢ ended.WriteFault → IsAnswered end
    faultless_in faultless ended.Page h writes = inl refl
    faultless_in faultless ended.Fault h writes = absurd (faultless h.0 h.1)
    faultless_in faultless ended.OtherWords h writes = absurd h
    faultless_in faultless ended.NoInput h writes = absurd (some h.0)
    faultless_in faultless ended.ReadFault h writes = absurd h
    faultless_in faultless ended.WriteFault h writes = absurd (writes refl)
    faultless_in faultless ended.Memory h writes = inr (inr refl)
    faultless_in faultless ended.No h writes = inr (inl refl)

    pub faultless_ends : ((text : List ℕ) → Lines all text → ⊥) → (end : Ended) → EndsWordIn Answers Lines IsNone all before after end → end ≢ ended.OtherWords → end ≢ ended.ReadFault → end ≢ ended.WriteFault → IsAnswered end
    faultless_ends faultless end (inl h) words reads writes = absurd (by h.0)
      where
        by : (end ≡ ended.OtherWords) ⊎ (end ≡ ended.ReadFault) → ⊥
        by (inl e) = words e
        by (inr e) = reads e
    faultless_ends faultless end (inr h) words reads writes = faultless_in faultless end h writes

-- ---- of one schema

module _ (answers : Data → Report → Said → Type 0) (tells : Data → Fault → List ℕ → Type 0) (c : Asking) (all : List ℕ) (before after : Option (List ℕ)) where
  pub no_schema : (end : Ended) → EndsWord answers tells c all before after end → IsNoSchema all → (end ≡ ended.NoInput) ⊎ IsAside end
  no_schema end h none = none_ends (IsAnswerTo answers c) (IsToldOf tells c) IsNoSchema all before after (λ said k. none k.0 k.2) (λ text k. none k.0 k.2) end h

  module _ (d : Data) (input : IsSchema all d) where
    -- no report stands on a schema that has none
    unreported : ((r : Report) → IsReportOn c (value_of d) r → ⊥) → (end : Ended) → EndsWord answers tells c all before after end → (end ≡ ended.Fault) ⊎ IsAside end
    unreported none end h =
        silent_ends (IsAnswerTo answers c) (IsToldOf tells c) IsNoSchema all before after (λ k. k d input)
        (λ said k. none k.1 (subst (λ (e : Data). IsReportOn c (value_of e) k.1) (one_schema all k.0 d k.2 input) k.3)) end h

    pub not_built : is_built c (value_of d) ≡ false → (end : Ended) → EndsWord answers tells c all before after end → (end ≡ ended.Fault) ⊎ IsAside end
    not_built other end h = unreported (λ r on. true≢false (sym on.built ∙ other)) end h

    pub faulty : (f : FaultD) → IsCauseIn c (value_of d) f → (end : Ended) → EndsWord answers tells c all before after end → (end ≡ ended.Fault) ⊎ IsAside end
    faulty f cause end h = unreported (λ r on. no_cause c.setting c.texts c.depth (value_of d) [] f on.built on.accepted cause) end h

    module _ (none : IsFaultless c (value_of d)) (judge : Rises c.before c.after → ⊥) where
      uncaused : (f : FaultD) → IsCaused c (value_of d) f → ⊥
      uncaused f (other, inl t, plain) = judge t.1.2.3
      uncaused f (other, inr k, plain) = none f k

      pub undisturbed : (end : Ended) → EndsWord answers tells c all before after end → end ≢ ended.OtherWords → end ≢ ended.ReadFault → end ≢ ended.WriteFault → IsAnswered end
      undisturbed end h words reads writes =
          faultless_ends (IsAnswerTo answers c) (IsToldOf tells c) IsNoSchema all before after (λ k. k d input)
          (λ text k. uncaused (fault_view k.1) (subst (λ (e : Data). IsCaused c (value_of e) (fault_view k.1)) (one_schema all k.0 d k.2 input) k.3)) end h words reads writes
