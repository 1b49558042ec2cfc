-- What is told, as a fault, of a merge that is refused.
use Rattle.std.specs.Prelude.{◌≡◌, ◌⊎◌, ◌∷◌}
use Rattle.schema_defs.specs.Location.{Location}
use Rattle.merge_defs.specs.Outcome.{Unsupported}
use Rattle.merge_walks.specs.Carried.{Walk}
use Rattle.merge_walks.specs.Told.{Refusal, Told, cannot, refused, too_deep}
use Rattle.schema_tree.specs.Fault.{FaultD, memory, depth, unsupported}
use Rattle.merge_faults.specs.Faults.{unmerged_kind}

-- the whole walk, or the kind at its place; nothing is told of an empty walk
pub data TellsRefusal : Refusal → FaultD → Type 0 where
  by_walk : (l : Location) (w : Walk) → TellsRefusal (too_deep (l ∷ w)) (depth (l ∷ w))
  by_kind : (u : Unsupported) (l : Location) → TellsRefusal (cannot u l) (unsupported l (unmerged_kind u))

-- want of memory, or what is told of the refusal
abbrev pub Refused : Told → FaultD → Type 0
Refused t f = (f ≡ memory) ⊎ ((r : Refusal) × (t ≡ refused r) × TellsRefusal r f)
