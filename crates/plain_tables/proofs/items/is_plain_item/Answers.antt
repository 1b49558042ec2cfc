use Rattle.std.proofs.Common.{ap}
use Rattle.conversion_table.specs.Conversions.{conversions_view}
use Rattle.value_models.specs.VariantView.{variants_view}
use Rattle.value_models.specs.ContainerView.{body_view, container_view, tag_view, variants_in}
use Rattle.value_models.specs.ContainersView.{containers_in}
use Rattle.plain_tables.proofs.Ruled.{enum_item}
use Rattle.plain_tables.proofs.items.is_plain_item.Goals as goal

pub returns-then-not-container : goal.returns-then-not-container
returns-then-not-container c =
    enum_item (containers_in c.args.table.now.containers) (conversions_view c.args.conversions.now) (container_view c.args.container.now) (tag_view c.in-Enum.tag) (variants_in c.in-Enum.variants)
    (variants_view c.variants.result.now) c.in_ok-plain-in-Enum.plain (ap body_view c.in-Enum.is) c.if-not-container.true c.variants.ensures c.in_ok-plain-in-Enum.ensures
