-- The words of the command line, but `--help` alone.
use Rattle.std.specs.Prelude.{ℕ, List, [], ◌∷◌, Option, Some, None, bytes_eq, codes}
use Rattle.std.specs.Bool.{then_some}
use Rattle.schema_defs.specs.declared.Setting.{Setting}
use Rattle.schema_defs.specs.declared.Setting.TheVariants.{Strict, NullAbsent}

abbrev pub setting_named : List ℕ → Option Setting
setting_named w = then_some (bytes_eq w (codes "--null-absent")) NullAbsent

-- no word, or `--null-absent` alone
abbrev pub setting_of : List (List ℕ) → Option Setting
setting_of [] = Some Strict
setting_of (w ∷ []) = setting_named w
setting_of _ = None
