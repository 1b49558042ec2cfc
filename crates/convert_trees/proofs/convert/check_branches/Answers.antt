use Rattle.std.proofs.Common.{refl}
use Rattle.merged_rows.specs.Starts.{spot_of}
use Rattle.convert_trees.proofs.Branches.{branch_next, branch_refuses, no_branch}
use Rattle.convert_trees.proofs.Ends.{if_err}
use Rattle.convert_trees.proofs.convert.check_branches.Goals as goal

pub loop-branch-init : goal.loop-branch-init
loop-branch-init c = λ r d h. refl

pub loop-branch-preserved : goal.loop-branch-preserved
loop-branch-preserved c = λ r d h.
    branch_next r d c.args.scope.now.depth (spot_of c.args.scope.now.start.now c.args.trail.now.items h) c.deref-branch-items.result.now c.loop-branch.branch-index c.branch-item.result
    c.loop-branch-test.true c.branch-item.is (c.in_ok-check_branch.ensures.fine r d h) (c.loop-branch.invariant r d h)

pub returns-clause-fine : goal.returns-clause-fine
returns-clause-fine c = λ r d h.
    no_branch r d c.args.scope.now.depth (spot_of c.args.scope.now.start.now c.args.trail.now.items h) c.deref-branch-items.result.now c.args.branches.now.items c.loop-branch.branch-index
    c.loop-branch-test.false c.deref-branch-items.ensures.value (c.loop-branch.invariant r d h)

pub returns-in_err-check_branch-clause-refused : goal.returns-in_err-check_branch-clause-refused
returns-in_err-check_branch-clause-refused c =
    if_err c.from_residual.result c.in_err-check_branch.field-0.0 _ c.from_residual.ensures.1
    (λ r d n h old new. branch_refuses r d c.args.scope.now.depth (spot_of c.args.scope.now.start.now c.args.trail.now.items h) n _ old new c.deref-branch-items.result.now c.args.branches.now.items c.loop-branch.branch-index c.branch-item.result
    c.loop-branch-test.true c.branch-item.is c.deref-branch-items.ensures.value (c.loop-branch.invariant r d h) (c.in_err-check_branch.ensures.refused r d n h old new))
