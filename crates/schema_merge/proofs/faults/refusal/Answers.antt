use Rattle.std.proofs.Common.{ap, inl, refl}
use Rattle.schema_tree.specs.Fault.{fault_view, unsupported}
use Rattle.schema_merge.proofs.Refusing.{deep_refused, kind_refused}
use Rattle.schema_merge.proofs.faults.refusal.Goals as goal

pub returns-in-Memory : goal.returns-in-Memory
returns-in-Memory c = λ o k. inl refl

pub returns-in-Depth : goal.returns-in-Depth
returns-in-Depth c = λ o k. deep_refused c.args.place o (fault_view c.depth_fault.result) c.args.fault c.in-Depth.walk c.in-Depth.is c.depth_fault.ensures k

pub returns-in-Unsupported : goal.returns-in-Unsupported
returns-in-Unsupported c = λ o k.
    kind_refused c.args.place o (unsupported c.args.place c.unsupported_kind.result) c.args.fault c.in-Unsupported.kind c.in-Unsupported.is (ap (unsupported c.args.place) c.unsupported_kind.ensures) k
