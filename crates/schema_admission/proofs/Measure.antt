-- The work that is left at a document, a value's size, a number of references, a schema's size, and a step's rank.
use Rattle.std.proofs.Common.{ℕ}
use Rattle.schema_defs.specs.Schema.{Document}
use Rattle.schema_defs.specs.Admits.{allowed}
use Rattle.schema_defs.specs.Counts.{nodes as document_nodes}
use Rattle.schema_admission.proofs.Order.{pack}

abbrev pub work : Document → ℕ → ℕ → ℕ → ℕ → ℕ
work d x y z k = pack (allowed d) (document_nodes d) x y z k

-- where all references are allowed
abbrev pub anew : Document → ℕ → ℕ → ℕ
anew d x k = work d x (allowed d) (document_nodes d) k
