use Rattle.std.proofs.Common.{◌++◌, codes, ap, ◌∙◌}
use Rattle.std.specs.Prelude.{slice_get}
use Rattle.covers_run.specs.Page.{variant_name}
use Rattle.covers_run.proofs.nodes.variant_text.Goals as goal

pub returns : goal.returns
returns c =
    let there = c.variant_at-variant.ensures ∙ ap (λ vs. slice_get vs c.args.place) c.variants_in-variants.ensures in
    let name = c.name_of-name.ensures ∙ ap variant_name there in
    c.in_ok-text.ensures ∙ (λ i. c.as_str.ensures.value i ++ codes "::" ++ name i)
