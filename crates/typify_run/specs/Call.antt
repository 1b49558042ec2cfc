-- What a run was asked, and how its judge of texts stood before it and after.
use Rattle.std.specs.Prelude.{ℕ, List, Option, Some, None}
use Rattle.schema_defs.specs.declared.Setting.{Setting}
use Rattle.schema_defs.specs.Texts.{Relations}
use Rattle.typify_run.specs.Words.{command_of, depth_said, setting_said}
use Rattle.typify_run.specs.declared.words.Asked.{Asked}
use Rattle.typify_run.specs.declared.words.Command.{Command}
use Rattle.typify_run.specs.declared.words.Command.TheVariants.{Check}

-- what the words ask for, at which depth and under which setting; what the judge of texts says, and how often it had failed before, and has by now
pub record Call : Type 0 where
  pub command : Command
  pub depth : ℕ
  pub setting : Setting
  pub texts : Relations
  pub before : ℕ
  pub after : ℕ

abbrev pub call : Asked → Relations → ℕ → ℕ → Call
call asked texts before after = record { command = asked.command; depth = asked.depth; setting = asked.setting; texts = texts; before = before; after = after }

-- verdicts are asked for, at that depth and under that setting
abbrev pub check_call : ℕ → Setting → Relations → ℕ → ℕ → Call
check_call depth setting texts before after = record { command = Check; depth = depth; setting = setting; texts = texts; before = before; after = after }

-- the depth that is said; 0 where none is
abbrev pub or_zero : Option ℕ → ℕ
or_zero None = 0
or_zero (Some n) = n

-- what the words ask for
abbrev pub asked_of : List (List ℕ) → Asked
asked_of words = record { command = command_of words; depth = or_zero (depth_said words); setting = setting_said words }

abbrev pub call_of : List (List ℕ) → Relations → ℕ → ℕ → Call
call_of words texts before after = call (asked_of words) texts before after
