use Rattle.std.proofs.Common.{◌≡◌, ◌&&◌, rules, SFits, to_z-of_z, ◌∙◌}
use mir.Syntax.{w128}
use Rattle.std.specs.Ordering.{int_eq}
use Rattle.entry_defs.specs.Layer.{integer_range}
use Rattle.convert_defs.specs.IntegerRow.{first_kind, kinds}
use Rattle.integer_rows.proofs.choice.kind_of_format.Goals as goal

pub returns : goal.returns
returns c =
    let fits_least : SFits w128 c.least_end-least.result = search rules in
    let fits_greatest : SFits w128 c.greatest_end-greatest.result = search rules in
    let least = to_z-of_z fits_least ∙ c.least_end-least.ensures in
    let greatest = to_z-of_z fits_greatest ∙ c.greatest_end-greatest.ensures in
    c.first_kind.ensures
    ∙ (λ i. first_kind (λ k. int_eq (integer_range k.plain).least (least i) && int_eq (integer_range k.plain).greatest (greatest i)) kinds)
