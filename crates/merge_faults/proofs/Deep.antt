-- A walk is told as it is, and none as want of memory.
use Rattle.std.proofs.Common.{◌≡◌, [], ◌∷◌, Some, None, slice_get}
use Rattle.schema_defs.specs.Location.{Location}
use Rattle.schema_tree.specs.Fault.{FaultD, memory, depth}
use Rattle.merge_walks.specs.Carried.{Walk}
use Rattle.merge_faults.specs.Faults.{TellsDeep}

pub few_levels : (w : Walk) (f : FaultD) → slice_get w 0 ≡ None → f ≡ memory → TellsDeep w f
few_levels [] f h e = e
few_levels (l ∷ w) f h e = cc

pub by_depth : (w : Walk) (l : Location) (f : FaultD) → slice_get w 0 ≡ Some l → f ≡ depth w → TellsDeep w f
by_depth [] l f h e = cc
by_depth (k ∷ w) l f h e = e
