-- The first numbered name that a test lets pass.
use Rattle.std.specs.Prelude.{ℕ, zero, suc, List, Bool, if◌then◌else◌}
use Rattle.naming_defs.specs.Names.{numbered}

-- from the number i on, where so many may be taken
abbrev pub first_untaken : List ℕ → (List ℕ → Bool) → ℕ → ℕ → List ℕ
first_untaken prefix is_taken zero i = numbered prefix i
first_untaken prefix is_taken (suc k) i = if is_taken (numbered prefix i) then first_untaken prefix is_taken k (suc i) else numbered prefix i
