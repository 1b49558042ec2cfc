use Rattle.std.proofs.Common.{ap, ◌∙◌}
use Rattle.value_types.specs.Paths.{names_of}
use Rattle.value_types.specs.RowView.{held_or_outside}
use Rattle.value_types.specs.ShapeView.{type_in}
use Rattle.value_types.proofs.Tables.{held_meant}
use Rattle.value_types.proofs.shape.held_shape.Goals as goal

pub returns-in-Some : goal.returns-in-Some
returns-in-Some c =
    let t = type_in c.args.ty.now in
    ap (λ o. held_or_outside o t) c.in-Some.ensures ∙ held_meant (names_of c.args.segments.now) t

pub returns-in-None : goal.returns-in-None
returns-in-None c =
    let t = type_in c.args.ty.now in
    ap (λ o. held_or_outside o t) c.in-None.ensures ∙ held_meant (names_of c.args.segments.now) t
