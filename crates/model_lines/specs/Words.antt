-- The words of the command line.
use Rattle.std.specs.Prelude.{ℕ, List, [], ◌∷◌, Option, Some, None, bytes_eq, codes, if◌then◌else◌}
use Rattle.schema_defs.specs.Texts.{Relations}
use Rattle.typify_run.specs.Call.{Call, check_call, or_zero}
use Rattle.typify_run.specs.Words.{depth_of, is_null_absent, setting_said}
use Rattle.model_lines.specs.declared.words.Asked.{Asked}

abbrev pub depth_in : List ℕ → List ℕ → Option ℕ
depth_in w d = if bytes_eq w (codes "lines") then depth_of d else None

-- `lines DEPTH`, alone or with `--null-absent` behind it
abbrev pub depth_said : List (List ℕ) → Option ℕ
depth_said (w ∷ d ∷ []) = depth_in w d
depth_said (w ∷ d ∷ o ∷ []) = if is_null_absent o then depth_in w d else None
depth_said _ = None

-- verdicts are asked for, at that depth and under that setting
abbrev pub call : Asked → Relations → ℕ → ℕ → Call
call asked texts before after = check_call asked.depth asked.setting texts before after

-- what the words ask for
abbrev pub asked_of : List (List ℕ) → Asked
asked_of words = record { depth = or_zero (depth_said words); setting = setting_said words }

abbrev pub call_of : List (List ℕ) → Relations → ℕ → ℕ → Call
call_of words texts before after = call (asked_of words) texts before after
