use Rattle.std.proofs.Common.{◌≡◌, ◌++◌, map, drop}
use Rattle.syntax_trees.specs.Item.{item_view}
use Rattle.conversion_table.specs.Conversions.{conversions_view}
use Rattle.container_defs.specs.Forms.{names_of}
use Rattle.value_models.specs.ContainerView.{containers_view}
use Rattle.model_describe.specs.Described.{described_model}
use Rattle.model_describe.proofs.table.models_of.Given as goal

abbrev pub invariant-loop-item : goal.invariant-loop-item
invariant-loop-item l =
    containers_view l.models.items ++ map (described_model (names_of (map item_view l.names.items.now)) (conversions_view l.conversions)) (map item_view (drop l.item-index l.items))
    ≡ map (described_model (names_of (map item_view l.names.items.now)) (conversions_view l.conversions)) (map item_view l.items)
