use Rattle.std.proofs.Common.{List, option_map, ap}
use Rattle.enum_defs.specs.Shapes.{Case, AdjacentShape}
use Rattle.enum_shapes.specs.View.{case_view}
use Rattle.enum_shapes.proofs.Gathered.{do-differ, do-not-differ, unless}
use Rattle.enum_shapes.proofs.adjacent.adjacent_with.Goals as goal

pub returns-then-branch : goal.returns-then-branch
returns-then-branch c =
    let f : List Case → AdjacentShape = λ cs. record { tag = c.args.tag.now; content = c.args.content.now; cases = cs } in
    unless c.is_constant.result _ _ _ c.is_constant.ensures c.if-is_constant.false
    (ap (option_map f) (do-differ c.in-Some.cases (λ x. x.items) case_view (λ x. x.name) c.in_ok-cases.field-0 _ _ c.in-Some.is c.in_ok-cases.ensures c.in_ok-do_names_differ.ensures c.if-branch.true))

pub returns : goal.returns
returns c =
    let f : List Case → AdjacentShape = λ cs. record { tag = c.args.tag.now; content = c.args.content.now; cases = cs } in
    unless c.is_constant.result _ _ _ c.is_constant.ensures c.if-is_constant.false
    (ap (option_map f) (do-not-differ c.in-Some.cases (λ x. x.items) case_view (λ x. x.name) c.in_ok-cases.field-0 _ _ c.in-Some.is c.in_ok-cases.ensures c.in_ok-do_names_differ.ensures c.if-branch.false))
