use Rattle.std.proofs.Common.{rules, ◌≡◌, map, ap, ◌∙◌, arith}
use Rattle.std.proofs.lemmas.Grind.{common_steps}
use Rattle.syntax_trees.specs.Syntax.{segments_of, generics_of, tys_of, exprs_of, bounds_of}
use Rattle.syntax_trees.specs.View.{ty, segment_view, generic_view, expr, bound_view}
use Rattle.derive_receiver.specs.Replaced.{in_ty, in_segment, in_generic, in_expr, in_bound}
use Rattle.derive_receiver.specs.View.{own_view}
use Rattle.derive_receiver.proofs.Walks.{tys_walked, bounds_walked, segments_walked, generics_walked, exprs_walked}
use Rattle.derive_receiver.proofs.walk.+walk.Goals as goal

pub walk_tys-returns : goal.walk_tys-returns
walk_tys-returns t c =
    let each : map ty c.loop-item.walked.items ≡ map (in_ty (own_view c.args.own.now)) (map ty c.args.from.now.items) = first_of (search rules, grind (arith, common_steps)) in
    ap tys_of each ∙ tys_walked (own_view c.args.own.now) (map ty c.args.from.now.items)

pub walk_bounds-returns-clause-all : goal.walk_bounds-returns-clause-all
walk_bounds-returns-clause-all t c =
    let each : map bound_view c.loop-item.walked.items ≡ map (in_bound (own_view c.args.own.now)) (map bound_view c.args.from.now.items) = first_of (search rules, grind (arith, common_steps)) in
    ap bounds_of each ∙ bounds_walked (own_view c.args.own.now) (map bound_view c.args.from.now.items)

pub walk_segments-returns : goal.walk_segments-returns
walk_segments-returns t c =
    let each : map segment_view c.loop-item.walked.items ≡ map (in_segment (own_view c.args.own.now)) (map segment_view c.args.from.now.items) = first_of (search rules, grind (arith, common_steps)) in
    ap segments_of each ∙ segments_walked (own_view c.args.own.now) (map segment_view c.args.from.now.items)

pub walk_generics-returns : goal.walk_generics-returns
walk_generics-returns t c =
    let each : map generic_view c.loop-item.walked.items ≡ map (in_generic (own_view c.args.own.now)) (map generic_view c.args.from.now.items) = first_of (search rules, grind (arith, common_steps)) in
    ap generics_of each ∙ generics_walked (own_view c.args.own.now) (map generic_view c.args.from.now.items)

pub walk_exprs-returns : goal.walk_exprs-returns
walk_exprs-returns t c =
    let each : map expr c.loop-item.walked.items ≡ map (in_expr (own_view c.args.own.now)) (map expr c.args.from.now.items) = first_of (search rules, grind (arith, common_steps)) in
    ap exprs_of each ∙ exprs_walked (own_view c.args.own.now) (map expr c.args.from.now.items)
