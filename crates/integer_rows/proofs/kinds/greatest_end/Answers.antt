use Rattle.std.proofs.Common.{◌≡◌, ap, rules, SFits, to_z-of_z, ◌∙◌}
use mir.Syntax.{w128}
use Rattle.schema_defs.specs.Integers.{Range}
use Rattle.integer_rows.proofs.kinds.greatest_end.Goals as goal

pub returns : goal.returns
returns c =
    let fits : SFits w128 c.ends_of.result.greatest = search rules in
    to_z-of_z fits ∙ ap (λ (g : Range). g.greatest) c.ends_of.ensures
