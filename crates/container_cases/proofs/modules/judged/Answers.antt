use Rattle.std.proofs.Common.{map}
use Rattle.syntax_trees.specs.Item.{item_view}
use Rattle.schema_tree.specs.Conversions.{conversions_view}
use Rattle.derive_model.proofs.PlainTables.{plain_module, plain_conversions}
use Rattle.container_cases.proofs.modules.judged.Goals as goal

pub judge-requires-clause-sound : goal.judge-requires-clause-sound
judge-requires-clause-sound c =
    let table = c.new-conversions.result in
    plain_module (λ r n. n) (λ r n. n) (conversions_view table) _ (map item_view c.args.items.now) _ _ c.in-Ok.ensures.models c.in-Ok.ensures.conversions c.in-Ok.ensures.inside (plain_conversions table c.new-conversions.ensures.defaults)
