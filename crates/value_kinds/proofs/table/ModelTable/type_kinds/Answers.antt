use Rattle.std.proofs.Common.{ap, ◌∙◌}
use Rattle.model_defs.specs.Layer.{one_type}
use Rattle.value_models.specs.ContainersView.{containers_in}
use Rattle.value_models.specs.TypeView.{type_view}
use Rattle.value_kinds.specs.Rounds.{claimed_kinds}
use Rattle.value_kinds.proofs.Splits.{claimed}
use Rattle.value_kinds.proofs.table.ModelTable.type_kinds.Goals as goal

pub returns : goal.returns
returns c =
    let ms = containers_in c.args.self.now.containers in
    c.claimed.ensures ∙ ap (claimed_kinds ms) c.type_claim.ensures ∙ claimed ms (one_type (type_view c.args.ty.now))
