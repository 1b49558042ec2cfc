use Rattle.enum_shapes.specs.View.{case_view}
use Rattle.enum_shapes.proofs.Gathered.{do-differ, do-not-differ}
use Rattle.enum_shapes.proofs.external.external_shape.Goals as goal

pub returns-then-branch : goal.returns-then-branch
returns-then-branch c =
    do-differ c.in-Some.cases (λ x. x.items) case_view (λ x. x.name) c.in_ok-cases.field-0 _ _ c.in-Some.is c.in_ok-cases.ensures c.in_ok-do_names_differ.ensures c.if-branch.true

pub returns : goal.returns
returns c =
    do-not-differ c.in-Some.cases (λ x. x.items) case_view (λ x. x.name) c.in_ok-cases.field-0 _ _ c.in-Some.is c.in_ok-cases.ensures c.in_ok-do_names_differ.ensures c.if-branch.false
