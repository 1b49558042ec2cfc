use Rattle.std.proofs.Common.{refl}
use Rattle.schema_tree.specs.Fault.{fault_view}
use Rattle.merged_rows.specs.Starts.{spot_of}
use Rattle.merged_rows.specs.Told.{no_memory}
use Rattle.merged_rows.proofs.Causes.{deep_told, kind_told}
use Rattle.merged_rows.proofs.faults.merge_fault.Goals as goal

pub returns-in-Memory : goal.returns-in-Memory
returns-in-Memory c = λ r d most n h o k. no_memory refl

pub returns-in-Depth : goal.returns-in-Depth
returns-in-Depth c = λ r d most n h o k.
    deep_told r d most n (spot_of c.args.start.now c.args.trail.now.items h) o (fault_view c.depth_fault.result) c.args.fault c.in-Depth.walk c.in-Depth.is c.depth_fault.ensures k

pub returns-in-Unsupported : goal.returns-in-Unsupported
returns-in-Unsupported c = λ r d most n h o k.
    kind_told r d most n (spot_of c.args.start.now c.args.trail.now.items h) o (fault_view c.unmerged.result) c.args.fault c.in-Unsupported.kind c.in-Unsupported.is c.unmerged.ensures k
