-- Walks of a document whose references have no cycle.
use Rattle.std.specs.Prelude.{◌≤◌, List, true, length, Contains}
use Rattle.schema_defs.specs.Location.{Location}
use Rattle.schema_defs.specs.Schema.{Document}
use Rattle.schema_defs.specs.Walks.{IsWalk, IsWalkFrom}
use Rattle.schema_defs.specs.Counts.{nodes}

-- no way along children and references comes back to where it began
abbrev pub HasNoCycle : Document → Type 0
HasNoCycle d = (l : Location) (ls : List Location) → IsWalkFrom d true l ls → Contains ls l → ⊥

-- then no walk has more locations than the document has schemas
abbrev pub WalksEnd : Type 0
WalksEnd = (d : Document) → HasNoCycle d → (w : List Location) → IsWalk d w → length w ≤ nodes d
