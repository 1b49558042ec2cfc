use Rattle.std.proofs.Common.{List, option_map, ap}
use Rattle.enum_defs.specs.Shapes.{InternalCase, InternalShape}
use Rattle.enum_shapes.specs.View.{internal_case_view}
use Rattle.enum_shapes.proofs.Gathered.{do-differ, do-not-differ}
use Rattle.enum_shapes.proofs.internal.tagged_by.Goals as goal

pub returns-then-branch : goal.returns-then-branch
returns-then-branch c =
    let f : List InternalCase → InternalShape = λ cs. record { tag = c.args.tag.now; cases = cs } in
    ap (option_map f) (do-differ c.in-Some.cases (λ x. x.items) internal_case_view (λ x. x.name) c.in_ok-cases.field-0 _ _ c.in-Some.is c.in_ok-cases.ensures c.in_ok-do_names_differ.ensures c.if-branch.true)

pub returns : goal.returns
returns c =
    let f : List InternalCase → InternalShape = λ cs. record { tag = c.args.tag.now; cases = cs } in
    ap (option_map f) (do-not-differ c.in-Some.cases (λ x. x.items) internal_case_view (λ x. x.name) c.in_ok-cases.field-0 _ _ c.in-Some.is c.in_ok-cases.ensures c.in_ok-do_names_differ.ensures c.if-branch.false)
