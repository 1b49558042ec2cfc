-- Two readings that tell the same.
use Rattle.std.specs.Prelude.{◌≡◌, List, ◌++◌}
use Rattle.attr_parts.specs.Diagnostics.{DiagnosticD}

-- the same is appended to both
pub record TellsAlike (first first_after second second_after : List DiagnosticD) : Type 0 where
  pub told : List DiagnosticD
  pub by_first : first_after ≡ first ++ told
  pub by_second : second_after ≡ second ++ told
