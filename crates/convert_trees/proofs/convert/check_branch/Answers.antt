use Rattle.std.proofs.Common.{None, sym, ap, subst, ◌∙◌, ◌≡◌, ◌⊎◌}
use Rattle.schema_tree.specs.Fault.{fault_view, memory, depth}
use Rattle.merge_walks.specs.Carried.{Walk, has_more_steps}
use Rattle.convert_walks.specs.Spot.{Spot}
use Rattle.merged_rows.specs.declared.start.Start.{Start}
use Rattle.merged_rows.specs.Starts.{spot_of, walk_by}
use Rattle.row_findings.specs.View.{branch_view}
use Rattle.convert_trees.proofs.Branches.{one_cut, one_left}
use Rattle.convert_trees.proofs.Ends.{if_err}
use Rattle.convert_trees.proofs.Telling.{want_refuses}
use Rattle.convert_trees.proofs.convert.check_branch.Goals as goal

pub returns-clause-fine : goal.returns-clause-fine
returns-clause-fine c = λ r d h.
    let walk_is = ap (λ (t : Start). walk_by t.walk c.in_ok-place.place.trail.items) c.start_at-start.ensures ∙ ap (λ (o : Spot). o.walk) (c.in_ok-place.ensures.place h None) in
    one_left r d c.args.scope.now.depth (spot_of c.args.scope.now.start.now c.args.trail.now.items h) (branch_view c.args.branch.now)
    (ap (has_more_steps c.args.scope.now.depth) (sym walk_is) ∙ sym c.is_deep.ensures ∙ c.if-is_deep.false)

pub returns-then-is_deep-clause-refused : goal.returns-then-is_deep-clause-refused
returns-then-is_deep-clause-refused c = λ r d n h old new.
    let walk_is = ap (λ (t : Start). walk_by t.walk c.in_ok-place.place.trail.items) c.start_at-start.ensures ∙ ap (λ (o : Spot). o.walk) (c.in_ok-place.ensures.place h None) in
    one_cut r d c.args.scope.now.depth (spot_of c.args.scope.now.start.now c.args.trail.now.items h) n (branch_view c.args.branch.now) _ old new
    (ap (has_more_steps c.args.scope.now.depth) (sym walk_is) ∙ sym c.is_deep.ensures ∙ c.if-is_deep.true)
    (subst (λ (w : Walk). (fault_view c.too_deep.result ≡ memory) ⊎ (fault_view c.too_deep.result ≡ depth w)) walk_is c.too_deep.ensures)

pub returns-in_err-place-clause-refused : goal.returns-in_err-place-clause-refused
returns-in_err-place-clause-refused c =
    if_err c.from_residual.result c.in_err-place.field-0.0 _ c.from_residual.ensures.1 (λ r d n h old new. want_refuses r d _ n _ old new _ c.in_err-place.ensures.memory)
