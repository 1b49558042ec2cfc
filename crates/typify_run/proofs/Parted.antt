-- What is said of a schema and values is said of the parts of an input that they are.
use Rattle.std.proofs.Common.{◌≡◌, inl, inr, List, [], true, refl, sym, subst}
use Rattle.serde_json.specs.Data.{Data, no_items}
use Rattle.json_value.specs.View.{value_of}
use Rattle.schema_tree.specs.Document.{IsAccepted}
use Rattle.schema_tree.specs.Fault.{fault_view, memory}
use Rattle.schema_tree.specs.declared.fault.Fault.{Fault}
use Rattle.run_input.specs.Input.{Parts}
use Rattle.typify_run.specs.Call.{Call}
use Rattle.typify_run.specs.Headline.{IsReportOf}
use Rattle.typify_run.specs.Examine.{IsCause, IsEmission, IsRefusal, IsTextsFault, is_examined}
use Rattle.typify_run.specs.Outcome.{IsCaused, IsReported, examined, values_of}
use Rattle.typify_run.specs.declared.report.Report.{Report}
use Rattle.typify_run.specs.declared.words.Command.{Command}
use Rattle.typify_run.specs.declared.words.Command.TheVariants.{Check, Items}

-- where no value is listed none is examined
none_of : (command : Command) → examined command [] ≡ []
none_of Check = refl
none_of Items = refl

pub none_examined : (c : Call) (schema : Data) → values_of c.command (record { schema = schema; values = no_items }) ≡ []
none_examined c schema = none_of c.command

module _ (c : Call) (schema : Data) (values : List Data) (parts : Parts) (same : parts.schema ≡ schema) (listed : values_of c.command parts ≡ values) where
  pub reported_of : (r : Report) → IsReportOf c.setting c.texts (value_of schema) values r → is_examined c.setting c.texts c.depth (value_of schema) values ≡ true → IsAccepted (value_of schema) → IsEmission c.setting c.texts c.depth (value_of schema) r → IsReported c parts r
  reported_of r h e a m = (
    subst (λ (d : Data). IsReportOf c.setting c.texts (value_of d) (values_of c.command parts) r) (sym same) (subst (λ (ds : List Data). IsReportOf c.setting c.texts (value_of schema) ds r) (sym listed) h),
    subst (λ (d : Data). is_examined c.setting c.texts c.depth (value_of d) (values_of c.command parts) ≡ true) (sym same) (subst (λ (ds : List Data). is_examined c.setting c.texts c.depth (value_of schema) ds ≡ true) (sym listed) e),
    subst (λ (d : Data). IsAccepted (value_of d)) (sym same) a,
    subst (λ (d : Data). IsEmission c.setting c.texts c.depth (value_of d) r) (sym same) m,
  )

  pub caused_of : (f : Fault) → (fault_view f ≡ memory → ⊥) → IsRefusal c.setting c.texts c.depth c.before c.after (value_of schema) values (fault_view f) → IsCaused c parts f
  caused_of f other (inl m) = absurd (other m)
  caused_of f other (inr (inl t)) = (
    other,
    inl (subst (λ (d : Data). IsTextsFault c.setting c.texts c.depth c.before c.after (value_of d) (values_of c.command parts) (fault_view f)) (sym same)
        (subst (λ (ds : List Data). IsTextsFault c.setting c.texts c.depth c.before c.after (value_of schema) ds (fault_view f)) (sym listed) t)),
  )
  caused_of f other (inr (inr h)) = (
    other,
    inr (subst (λ (d : Data). IsCause c.setting c.texts c.depth (value_of d) (values_of c.command parts) (fault_view f)) (sym same)
        (subst (λ (ds : List Data). IsCause c.setting c.texts c.depth (value_of schema) ds (fault_view f)) (sym listed) h)),
  )
