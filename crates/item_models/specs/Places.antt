-- Places in the table of defaults, by their digits.
use Rattle.std.specs.Prelude.{ℕ, List, Option, Some, None}
use Rattle.type_spellings.specs.Types.{number_of}
use Rattle.container_defs.specs.Reader.{written_so}

-- the place that digits write, where some are told
abbrev pub placed : Option (List ℕ) → Option ℕ
placed None = None
placed (Some ds) = written_so ds (number_of ds)
