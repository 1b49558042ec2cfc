use Rattle.std.proofs.Common.{ap, ◌∙◌}
use Rattle.std.specs.Bool.{then_some}
use Rattle.schema_defs.specs.declared.Setting.TheVariants.{NullAbsent}
use Rattle.admission_run.proofs.words.setting_of_word.Goals as goal

pub returns : goal.returns
returns c = c.then_some.ensures ∙ ap (λ b. then_some b NullAbsent) c.is_null_absent.ensures
