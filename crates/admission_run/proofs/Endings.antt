-- How a run ends whose text was printed, and what it says where the fault isn't want of memory.
use Rattle.std.proofs.Common.{◌≡◌, ◌⊎◌, inl, inr, ℕ, List, Bool, true, Option, refl, sym, subst}
use Rattle.std.specs.Prelude.{Result, Ok, Err, IfErr}
use Rattle.std.specs.Result.{IsErrAnd}
use Rattle.serde_json.specs.Data.{Data}
use Rattle.run_io.specs.Bytes.{AppendsPrefix}
use Rattle.json_value.specs.Value.{Value}
use Rattle.json_value.specs.View.{value_of}
use Rattle.schema_defs.specs.declared.Setting.{Setting}
use Rattle.schema_defs.specs.Texts.{Relations}
use Rattle.schema_defs.specs.Schema.{Document}
use Rattle.schema_tree.specs.Fault.{FaultD, memory, fault_line, fault_view}
use Rattle.schema_tree.specs.declared.fault.Fault.{Fault}
use Rattle.schema_tree.specs.Document.{IsReadAs}
use Rattle.schema_tree.specs.Numbers.{are_i64}
use Rattle.schema_tree.proofs.Settings.{read_strictly}
use Rattle.run_input.specs.Input.{Parts, IsInput, data_of}
use Rattle.admission_run.specs.Verdicts.{AreVerdicts, IsCause, IsRefusal, IsUnjudged}
use Rattle.admission_run.specs.Page.{page}
use Rattle.admission_run.specs.Outcome.{Ends, IsLineOf, IsPageOf, IsTextOf, IsWritten}
use Rattle.admission_run.specs.declared.outcome.Outcome.{Outcome}
use Rattle.admission_run.specs.declared.outcome.Outcome.TheVariants as outcome

module _ (setting : Setting) (r : Relations) (faults faults' : ℕ) (all : List ℕ) (before after : Option (List ℕ)) (text : List ℕ) (end : Outcome) where
  cut : IsTextOf setting r faults faults' all text → (end ≡ outcome.WriteFault) ⊎ (end ≡ outcome.Memory) → AppendsPrefix before after text → Ends setting r faults faults' all before after end
  cut h (inl e) w = subst (λ (o : Outcome). Ends setting r faults faults' all before after o) (sym e) (text, h, w)
  cut h (inr e) w = subst (λ (o : Outcome). Ends setting r faults faults' all before after o) (sym e) (inr (text, h, w))

  pub page_ends : IsPageOf setting r all text → IsWritten before after text outcome.Page end → Ends setting r faults faults' all before after end
  page_ends h (inl w) = subst (λ (o : Outcome). Ends setting r faults faults' all before after o) (sym w.0) (text, h, w.1)
  page_ends h (inr w) = cut (inl h) w.0 w.1

  pub line_ends : IsLineOf faults faults' all text → IsWritten before after text outcome.Fault end → Ends setting r faults faults' all before after end
  line_ends h (inl w) = subst (λ (o : Outcome). Ends setting r faults faults' all before after o) (sym w.0) (text, h, w.1)
  line_ends h (inr w) = cut (inr h) w.0 w.1

-- where the document was read, a judge that failed is a cause
pub unjudged_refused : (setting : Setting) (before after : ℕ) (schema : Value) (values : List Data) (d : Document) (f : FaultD)
    → are_i64 values ≡ true → IsReadAs setting schema d → IsUnjudged before after f → IsRefusal before after schema values f
unjudged_refused setting before after schema values d f e h (inl m) = inl m
unjudged_refused setting before after schema values d f e h (inr u) =
    inr (subst (λ (g : FaultD). IsCause before after schema values g) (sym u.0) (e, read_strictly setting schema d h, refl, u.1))

-- the fault that leaves a function is what its cause is told of
pub told_of_fault : {X : Type 0} (r : Result X Fault) (e : Fault) (P : FaultD → Type 0) → IsErrAnd r (λ f. f ≡ e) → P (fault_view e) → IfErr r (λ f. P (fault_view f))
told_of_fault (Ok x) e P h p = absurd h
told_of_fault (Err f) e P h p = subst (λ (k : Fault). P (fault_view k)) (sym h) p

pub cause_left : (before after : ℕ) (schema : Value) (values : List Data) (f : FaultD) → (f ≡ memory → ⊥) → IsRefusal before after schema values f → IsCause before after schema values f
cause_left before after schema values f other (inl e) = absurd (other e)
cause_left before after schema values f other (inr h) = h

-- the parts of an input, where they are the views of a schema and of values
module _ (all : List ℕ) (parts : Parts) (schema : Data) (values : List Data) (input : IsInput all parts) (is_schema : parts.schema ≡ schema) (are_values : data_of parts.values ≡ values) where
  pub page_of_parts : (setting : Setting) (r : Relations) (answers seen : List Bool) → seen ≡ answers → AreVerdicts setting r (value_of schema) values answers → IsPageOf setting r all (page seen)
  page_of_parts setting r answers seen e h =
      let of_values : AreVerdicts setting r (value_of schema) (data_of parts.values) answers = subst (λ (ds : List Data). AreVerdicts setting r (value_of schema) ds answers) (sym are_values) h in
      let of_parts : AreVerdicts setting r (value_of parts.schema) (data_of parts.values) answers = subst (λ (d : Data). AreVerdicts setting r (value_of d) (data_of parts.values) answers) (sym is_schema) of_values in
      (parts, seen, input, subst (λ (bs : List Bool). AreVerdicts setting r (value_of parts.schema) (data_of parts.values) bs) (sym e) of_parts, refl)

  pub line_of_parts : (faults faults' : ℕ) (f : FaultD) → IsCause faults faults' (value_of schema) values f → IsLineOf faults faults' all (fault_line f)
  line_of_parts faults faults' f h =
      let of_values : IsCause faults faults' (value_of schema) (data_of parts.values) f = subst (λ (ds : List Data). IsCause faults faults' (value_of schema) ds f) (sym are_values) h in
      (parts, f, input, subst (λ (d : Data). IsCause faults faults' (value_of d) (data_of parts.values) f) (sym is_schema) of_values, refl)

-- the end of a run on bytes, said of the bytes of the source, at the end that it is
pub ends_as : (setting : Setting) (r : Relations) (faults faults' : ℕ) (bytes all : List ℕ) (before after : Option (List ℕ)) (end other : Outcome)
    → bytes ≡ all → end ≡ other → Ends setting r faults faults' bytes before after end → Ends setting r faults faults' all before after other
ends_as setting r faults faults' bytes all before after end other b e h =
    subst (λ (o : Outcome). Ends setting r faults faults' all before after o) e (subst (λ (bs : List ℕ). Ends setting r faults faults' bs before after end) b h)
