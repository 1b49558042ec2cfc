-- What each status says, out of how a run ends.
use Rattle.std.proofs.Common.{◌≡◌, ◌≢◌, ◌⊎◌, inl, inr, ℕ, zero, suc, List, false, true≢false, Option, Some, None, refl, sym, ◌∙◌, ap, subst, arith}
use Rattle.std.proofs.lemmas.Option.{same_Some}
use Rattle.json_value.specs.View.{value_of}
use Rattle.schema_tree.specs.Fault.{FaultD}
use Rattle.schema_tree.specs.declared.fault.Fault.{Fault}
use Rattle.run_input.specs.Input.{Parts, IsInput, parts_of, IsNoInput}
use Rattle.typify_run.specs.Outcome.{Answers, Ends, EndsReading, IsBare, IsCarried, IsCauseIn, IsCutShort, IsFaultPrinted, IsMemorySpent, IsReportPrinted, IsReported, IsWritingCut, is_built, values_of}
use Rattle.typify_run.specs.declared.report.Report.{Report}
use Rattle.typify_run.specs.Call.{Call}
use Rattle.typify_run.proofs.Causes.{no_cause}

-- bytes are an input of one schema and one list of values
pub one_input : (all : List ℕ) (p q : Parts) → IsInput all p → IsInput all q → p ≡ q
one_input all p q a b =
    let same : a.read.0 ≡ b.read.0 = same_Some a.read.0 b.read.0 (sym a.read.1 ∙ b.read.1) in
    same_Some p q (sym a.read.2 ∙ ap parts_of same ∙ b.read.2)

module _ (c : Call) (all : List ℕ) (before after : Option (List ℕ)) where
  -- by what the parts of the input say, where that is said at that status
  abbrev Said : ℕ → Option Report → Option Fault → Type 0
  Said n report fault = (parts : Parts) × IsInput all parts × Answers c parts before after n report fault

  -- a status that neither stands for no input, nor for reading, nor for memory that ran out early, is said by the parts
  said : (status n : ℕ) (report : Option Report) (fault : Option Fault) → status ≡ n → n ≢ 3 → n ≢ 4 → n ≢ 6 → EndsReading c all before after status report fault → Said n report fault
  said status n report fault e three four six (inl h) = absurd (four (sym e ∙ h.0))
  said status n report fault e three four six (inr (inl h)) = absurd (three (sym e ∙ h.0))
  said status n report fault e three four six (inr (inr (inl h))) = absurd (six (sym e ∙ h.0))
  said status n report fault e three four six (inr (inr (inr h))) = (h.0, h.1, subst (λ s. Answers c h.0 before after s report fault) e h.2)

  printed : (report : Option Report) (fault : Option Fault) → Said 0 report fault → IsReportPrinted c all before after report fault
  printed (Some r) None h = (h.0, r, h.1, refl, refl, h.2.0, h.2.1)
  printed None f h = absurd h.2
  printed (Some r) (Some f) h = absurd h.2

  faulted : (report : Option Report) (fault : Option Fault) → Said 1 report fault → IsFaultPrinted c all before after report fault
  faulted None (Some f) h = (h.0, f, h.1, refl, refl, h.2.0, h.2.1)
  faulted None None h = absurd h.2
  faulted (Some r) f h = absurd h.2

  cut : (report : Option Report) (fault : Option Fault) → Said 5 report fault → IsWritingCut c all before after report fault
  cut (Some r) None h = (h.0, h.1, inl (r, refl, refl, h.2.0, h.2.1))
  cut None (Some f) h = (h.0, h.1, inr (f, refl, refl, h.2.0, h.2.1))
  cut None None h = absurd h.2
  cut (Some r) (Some f) h = absurd h.2

  spent : (report : Option Report) (fault : Option Fault) → Said 6 report fault → IsMemorySpent c all before after report fault
  spent None None h = (refl, refl, inr h)
  spent None (Some f) h = absurd h.2
  spent (Some r) f h = absurd h.2

  pub report_printed : (status : ℕ) (report : Option Report) (fault : Option Fault) → EndsReading c all before after status report fault → status ≡ 0 → IsReportPrinted c all before after report fault
  report_printed status report fault h e = printed report fault (said status 0 report fault e (λ x. omega (arith, x)) (λ x. omega (arith, x)) (λ x. omega (arith, x)) h)

  pub fault_printed : (status : ℕ) (report : Option Report) (fault : Option Fault) → EndsReading c all before after status report fault → status ≡ 1 → IsFaultPrinted c all before after report fault
  fault_printed status report fault h e = faulted report fault (said status 1 report fault e (λ x. omega (arith, x)) (λ x. omega (arith, x)) (λ x. omega (arith, x)) h)

  pub writing_cut : (status : ℕ) (report : Option Report) (fault : Option Fault) → EndsReading c all before after status report fault → status ≡ 5 → IsWritingCut c all before after report fault
  writing_cut status report fault h e = cut report fault (said status 5 report fault e (λ x. omega (arith, x)) (λ x. omega (arith, x)) (λ x. omega (arith, x)) h)

  pub no_input : (status : ℕ) (report : Option Report) (fault : Option Fault) → EndsReading c all before after status report fault → status ≡ 3 → IsNoInput all × IsBare before after report fault
  no_input status report fault (inl h) e = absurd (omega (arith, h.0, e))
  no_input status report fault (inr (inl h)) e = (h.1, h.2)
  no_input status report fault (inr (inr (inl h))) e = absurd (omega (arith, h.0, e))
  no_input status report fault (inr (inr (inr h))) e = absurd (subst (λ s. Answers c h.0 before after s report fault) e h.2)

  pub memory_spent : (status : ℕ) (report : Option Report) (fault : Option Fault) → EndsReading c all before after status report fault → status ≡ 6 → IsMemorySpent c all before after report fault
  memory_spent status report fault (inl h) e = absurd (omega (arith, h.0, e))
  memory_spent status report fault (inr (inl h)) e = absurd (omega (arith, h.0, e))
  memory_spent status report fault (inr (inr (inl h))) e = (h.1.1, h.1.2, inl h.1.0)
  memory_spent status report fault (inr (inr (inr h))) e = spent report fault (h.0, h.1, subst (λ s. Answers c h.0 before after s report fault) e h.2)

  pub carried : (status : ℕ) (report : Option Report) (fault : Option Fault) → Ends c all before after status report fault → IsCarried c before after status report fault
  carried status report fault (inl h) = inl (inr (inl h.0), h.2)
  carried status report fault (inr (inl h)) = inl (inr (inr (inr h.0)), h.1)
  carried status report fault (inr (inr h)) = inr (h.0, h.2)

  pub refused : (status : ℕ) (report : Option Report) (fault : Option Fault) → EndsReading c all before after status report fault → IsNoInput all → (status ≡ 3) ⊎ IsCutShort status
  refused status report fault (inl h) none = inr (inl h.0)
  refused status report fault (inr (inl h)) none = inl h.0
  refused status report fault (inr (inr (inl h))) none = inr (inr (inr h.0))
  refused status report fault (inr (inr (inr h))) none = absurd (none h.0 h.1)

  -- parts of which no report is given are answered by a fault, or cut short
  unreported : (parts : Parts) (status : ℕ) (report : Option Report) (fault : Option Fault) → ((r : Report) → IsReported c parts r → ⊥) → Answers c parts before after status report fault → (status ≡ 1) ⊎ IsCutShort status
  unreported parts zero (Some r) None none h = absurd (none r h.0)
  unreported parts zero None fault none h = absurd h
  unreported parts zero (Some r) (Some f) none h = absurd h
  unreported parts (suc zero) report fault none h = inl refl
  unreported parts (suc (suc zero)) report fault none h = absurd h
  unreported parts (suc (suc (suc zero))) report fault none h = absurd h
  unreported parts (suc (suc (suc (suc zero)))) report fault none h = absurd h
  unreported parts (suc (suc (suc (suc (suc zero))))) report fault none h = inr (inr (inl refl))
  unreported parts (suc (suc (suc (suc (suc (suc zero)))))) report fault none h = inr (inr (inr refl))
  unreported parts (suc (suc (suc (suc (suc (suc (suc n))))))) report fault none h = absurd h

  -- the same of an input's parts, out of how a run ends
  refused_parts : (status : ℕ) (report : Option Report) (fault : Option Fault) → EndsReading c all before after status report fault → (parts : Parts) → IsInput all parts → ((r : Report) → IsReported c parts r → ⊥) → (status ≡ 1) ⊎ IsCutShort status
  refused_parts status report fault (inl h) parts input none = inr (inl h.0)
  refused_parts status report fault (inr (inl h)) parts input none = absurd (h.1 parts input)
  refused_parts status report fault (inr (inr (inl h))) parts input none = inr (inr (inr h.0))
  refused_parts status report fault (inr (inr (inr h))) parts input none = unreported parts status report fault none (subst (λ p. Answers c p before after status report fault) (one_input all h.0 parts h.1 input) h.2)

  -- a report is given of a document that is converted
  pub not_built : (status : ℕ) (report : Option Report) (fault : Option Fault) → EndsReading c all before after status report fault → (parts : Parts) → IsInput all parts → is_built c parts ≡ false → (status ≡ 1) ⊎ IsCutShort status
  not_built status report fault h parts input other = refused_parts status report fault h parts input (λ r given. true≢false (sym given.1 ∙ other))

  -- and of parts in which no fault has its cause
  pub faulty : (status : ℕ) (report : Option Report) (fault : Option Fault) → EndsReading c all before after status report fault → (parts : Parts) (f : FaultD) → IsInput all parts → IsCauseIn c parts f → (status ≡ 1) ⊎ IsCutShort status
  faulty status report fault h parts f input cause = refused_parts status report fault h parts input (λ r given. no_cause c.setting c.texts c.depth (value_of parts.schema) (values_of c.command parts) f given.1 given.2 cause)
