-- What a run does for the command, the depth and the setting that its words name, it does for the words.
use Rattle.std.proofs.Common.{◌≡◌, ℕ, List, Some}
use Rattle.schema_defs.specs.Texts.{Relations}
use Rattle.typify_run.specs.Words.{command_of, depth_said, setting_said}
use Rattle.typify_run.specs.Call.{call, call_of, or_zero}
use Rattle.typify_run.specs.declared.words.Asked.{Asked}

pub same_call : (asked : Asked) (words : List (List ℕ)) (texts : Relations) (before after : ℕ) → asked.command ≡ command_of words → Some asked.depth ≡ depth_said words → asked.setting ≡ setting_said words
    → call asked texts before after ≡ call_of words texts before after
same_call asked words texts before after e f g = λ i. call (record { command = e i; depth = or_zero (f i); setting = g i }) texts before after
