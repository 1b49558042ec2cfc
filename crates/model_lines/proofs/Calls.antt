-- The call that words ask for.
use Rattle.std.proofs.Common.{◌≡◌, ◌≢◌, ℕ, List, Some, None, refl, sym, ◌∙◌, ap, subst}
use Rattle.std.specs.Prelude.{Option}
use Rattle.schema_defs.specs.Texts.{Relations}
use Rattle.schema_tree.specs.declared.fault.Fault.{Fault}
use Rattle.typify_run.specs.Call.{Call, check_call, or_zero}
use Rattle.typify_run.specs.Words.{setting_said}
use Rattle.typify_run.specs.declared.report.Report.{Report}
use Rattle.model_lines.specs.Outcome.{EndsLines}
use Rattle.model_lines.specs.Words.{call, call_of, depth_said}
use Rattle.model_lines.specs.declared.words.Asked.{Asked}

pub same_call : (asked : Asked) (words : List (List ℕ)) (texts : Relations) (before after : ℕ) → Some asked.depth ≡ depth_said words → asked.setting ≡ setting_said words
    → call asked texts before after ≡ call_of words texts before after
same_call asked words texts before after e k = λ z. check_call (ap or_zero e z) (k z) texts before after

-- no run that reads ends by its words
pub not_by_words : (c : Call) (left left' before after : Option (List ℕ)) (status : ℕ) (report : Option Report) (fault : Option Fault) → EndsLines c left left' before after status report fault → status ≢ 2
not_by_words c left left' before after status report fault h e = subst (λ (s : ℕ). EndsLines c left left' before after s report fault) e h
