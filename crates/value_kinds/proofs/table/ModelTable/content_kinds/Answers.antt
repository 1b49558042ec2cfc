use Rattle.std.proofs.Common.{ap, ◌∙◌}
use Rattle.model_defs.specs.Layer.{variant_content}
use Rattle.value_models.specs.ContainersView.{containers_in}
use Rattle.value_models.specs.VariantView.{variant_view}
use Rattle.value_kinds.specs.Rounds.{claimed_kinds}
use Rattle.value_kinds.proofs.Splits.{claimed, fields_alike}
use Rattle.value_kinds.proofs.table.ModelTable.content_kinds.Goals as goal

pub returns : goal.returns
returns c = λ closed.
    let ms = containers_in c.args.self.now.containers in
    let w = variant_view c.args.variant.now in
    c.claimed.ensures ∙ ap (claimed_kinds ms) c.fields_claim.ensures ∙ ap (claimed_kinds ms) (fields_alike closed w.style w.fields) ∙ claimed ms (variant_content closed w)
