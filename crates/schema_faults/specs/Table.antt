-- What the code holds, as the definitions see it.
use Rattle.std.specs.Prelude.{ℕ, List, Bool, true, false}
use Rattle.std.specs.Borrow.{Bor}
use Rattle.schema_faults.specs.declared.keyword.Holds.{Holds}
use Rattle.schema_defs.specs.Location.{unescaped, after_tilde}
use Rattle.schema_faults.specs.Keywords.{Row}

-- a keyword of the table, and what it holds
abbrev pub row_of : (Bor (List ℕ) × Holds) → Row
row_of r = (r.0.now, r.1)

-- what is to be written of the rest of a text, where `pending` says that a `~` before it is not written yet
abbrev pub left_after : Bool → List ℕ → List ℕ
left_after true s = after_tilde s
left_after false s = unescaped s
