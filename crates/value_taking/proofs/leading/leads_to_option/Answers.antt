use Rattle.std.proofs.Common.{◌≡◌, suc, ◌+◌, length, ap, ◌∙◌, arith}
use Rattle.model_defs.specs.Reads.{leads_within, type_leads}
use Rattle.value_models.specs.ContainersView.{containers_in}
use Rattle.value_models.specs.TypeView.{type_view}
use Rattle.value_taking.proofs.leading.leads_to_option.Goals as goal

pub returns : goal.returns
returns c =
    let ms = containers_in c.args.containers.now in
    c.type_leads.ensures ∙ ap (λ n. type_leads (leads_within ms n) (type_view c.args.ty.now)) (let k : c.count.result + 1 ≡ suc (length ms) = omega (arith, c.count.ensures.count) in k)
