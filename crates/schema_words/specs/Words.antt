-- The words of the command line, and what they ask for.
use Rattle.std.specs.Prelude.{ℕ, List, [], ◌∷◌, Option, None, bytes_eq, if◌then◌else◌}
use Rattle.schema_defs.specs.declared.Setting.{Setting}
use Rattle.schema_defs.specs.Texts.{Relations}
use Rattle.typify_run.specs.Words.{depth_of, is_null_absent, setting_said}
use Rattle.typify_run.specs.Call.{or_zero}

-- `WORD DEPTH`
abbrev pub depth_if : List ℕ → List ℕ → List ℕ → Option ℕ
depth_if word w d = if bytes_eq w word then depth_of d else None

-- `WORD DEPTH`, alone or with `--null-absent` behind it
abbrev pub depth_behind : List ℕ → List (List ℕ) → Option ℕ
depth_behind word (w ∷ d ∷ []) = depth_if word w d
depth_behind word (w ∷ d ∷ o ∷ []) = if is_null_absent o then depth_if word w d else None
depth_behind word _ = None

-- at which depth a schema is examined, and under which setting; what the judge of texts says, and how often it had failed before, and has by now
pub record Asking : Type 0 where
  pub depth : ℕ
  pub setting : Setting
  pub texts : Relations
  pub before : ℕ
  pub after : ℕ

abbrev pub asking : ℕ → Setting → Relations → ℕ → ℕ → Asking
asking depth setting texts before after = record { depth = depth; setting = setting; texts = texts; before = before; after = after }

-- what the words ask for; at depth 0 where none is said
abbrev pub asking_of : List ℕ → List (List ℕ) → Relations → ℕ → ℕ → Asking
asking_of word words texts before after = asking (or_zero (depth_behind word words)) (setting_said words) texts before after
