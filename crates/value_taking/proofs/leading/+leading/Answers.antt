use Rattle.model_defs.specs.Reads.{leads_within}
use Rattle.value_models.specs.ContainersView.{containers_in}
use Rattle.value_models.specs.TypeView.{type_view}
use Rattle.value_taking.proofs.Leads.{by_item}
use Rattle.value_taking.proofs.leading.+leading.Goals as goal

pub type_leads-returns-in-Item : goal.type_leads-returns-in-Item
type_leads-returns-in-Item t c = by_item (leads_within (containers_in c.args.containers.now) c.args.left) (type_view c.args.ty.now) c.in-Item.name.now c.item_leads.result c.in-Item.ensures c.item_leads.ensures
