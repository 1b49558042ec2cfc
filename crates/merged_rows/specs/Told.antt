-- What is told of the schemas of a conversion tree where rows may merge.
use Rattle.std.specs.Prelude.{◌≡◌, List, ◌∷◌}
use Rattle.schema_defs.specs.Location.{Location}
use Rattle.merge_defs.specs.Outcome.{Unsupported}
use Rattle.merge_walks.specs.Carried.{Walk}
use Rattle.convert_walks.specs.Told.{Reason, by_merge, too_deep}
use Rattle.schema_tree.specs.Fault.{FaultD, memory, depth, unsupported}
use Rattle.merge_faults.specs.Faults.{unmerged_kind}

-- ---- faults

-- want of memory, or what is told of the first of these faults of a merge
pub data TellsMerge (fs : List (Location × Reason)) (told : FaultD) : Type 0 where
  no_memory : told ≡ memory → TellsMerge fs told
  by_walk : (l : Location) (w : Walk) (more : List (Location × Reason)) → fs ≡ (l, too_deep w) ∷ more → told ≡ depth w → TellsMerge fs told
  by_kind : (l : Location) (u : Unsupported) (more : List (Location × Reason)) → fs ≡ (l, by_merge u) ∷ more → told ≡ unsupported l (unmerged_kind u) → TellsMerge fs told
