-- The words of the command line.
use Rattle.std.specs.Prelude.{ℕ, ◌+◌, ◌-◌, ◌*◌, ◌&&◌, ◌||◌, nat_le, List, [], ◌∷◌, Bool, Option, Some, None, bytes_eq, codes, if◌then◌else◌}
use Rattle.schema_defs.specs.declared.Setting.{Setting}
use Rattle.schema_defs.specs.declared.Setting.TheVariants.{Strict, NullAbsent}
use Rattle.typify_run.specs.declared.words.Command.{Command}
use Rattle.typify_run.specs.declared.words.Command.TheVariants.{Check, Items}

abbrev pub is_digit : ℕ → Bool
is_digit c = nat_le 48 c && nat_le c 57

-- a digit that a number begins with
abbrev pub is_leading : ℕ → Bool
is_leading c = nat_le 49 c && nat_le c 57

abbrev pub up_to : ℕ → Bool → ℕ → Option ℕ
up_to most are_digits n = if are_digits && nat_le n most then Some n else None

-- one to three decimal digits without sign or leading zero, from 1 to 512
abbrev pub depth_of : List ℕ → Option ℕ
depth_of (a ∷ []) = up_to 512 (is_leading a) (a - 48)
depth_of (a ∷ b ∷ []) = up_to 512 (is_leading a && is_digit b) ((a - 48) * 10 + (b - 48))
depth_of (a ∷ b ∷ c ∷ []) = up_to 512 (is_leading a && is_digit b && is_digit c) (((a - 48) * 10 + (b - 48)) * 10 + (c - 48))
depth_of _ = None

-- `check DEPTH` or `items DEPTH`
abbrev pub depth_in : List ℕ → List ℕ → Option ℕ
depth_in w d = if bytes_eq w (codes "check") || bytes_eq w (codes "items") then depth_of d else None

-- null may stand for the absence of a property that isn't required
abbrev pub is_null_absent : List ℕ → Bool
is_null_absent w = bytes_eq w (codes "--null-absent")

-- `check DEPTH` or `items DEPTH`, alone or with `--null-absent` behind it
abbrev pub depth_said : List (List ℕ) → Option ℕ
depth_said (w ∷ d ∷ []) = depth_in w d
depth_said (w ∷ d ∷ o ∷ []) = if is_null_absent o then depth_in w d else None
depth_said _ = None

-- what the words ask for: items where the first says so, and else verdicts
abbrev pub command_of : List (List ℕ) → Command
command_of (w ∷ ws) = if bytes_eq w (codes "items") then Items else Check
command_of [] = Check

-- under which setting: null may stand for absence where the third word says so
abbrev pub setting_said : List (List ℕ) → Setting
setting_said (w ∷ d ∷ o ∷ ws) = if is_null_absent o then NullAbsent else Strict
setting_said _ = Strict
