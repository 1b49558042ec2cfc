use Rattle.std.proofs.Common.{map}
use Rattle.syntax_trees.specs.Item.{item_view}
use Rattle.syntax_trees.specs.View.{ty}
use Rattle.conversion_table.specs.Conversions.{conversions_view}
use Rattle.type_spellings.specs.Types.{type_of}
use Rattle.value_models.specs.ContainersView.{containers_in}
use Rattle.model_describe.proofs.Plainly.{plain_items}
use Rattle.model_describe.proofs.describing.describe.Goals as goal

pub returns-in-Ok-by_table-clause-plain : goal.returns-in-Ok-by_table-clause-plain
returns-in-Ok-by_table-clause-plain c =
    plain_items (conversions_view c.args.conversions.now) (map item_view c.args.items.now) (type_of (ty c.args.root.now)) (containers_in c.in-Ok.table.containers) c.in-Ok.ensures c.in-Ok-by_table.ensures.plain
