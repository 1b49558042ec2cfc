use Rattle.std.proofs.Common.{map}
use Rattle.serde_json.specs.View.{view}
use Rattle.json_value.specs.View.{kept_view}
use Rattle.syntax_trees.specs.Item.{item_view}
use Rattle.syntax_trees.specs.View.{ty}
use Rattle.conversion_table.specs.Conversions.{conversions_view}
use Rattle.type_spellings.specs.Types.{type_of}
use Rattle.model_redescribe.proofs.Told.{redescribed}
use Rattle.model_redescribe.proofs.redescribing.redescribe.Goals as goal

pub returns-in-Ok-examined-clause-report : goal.returns-in-Ok-examined-clause-report
returns-in-Ok-examined-clause-report g c =
    redescribed (conversions_view c.args.conversions.now) (map item_view c.args.items.now) (type_of (ty c.args.root.now)) (kept_view c.in-Ok.description) c.in-Ok.ensures.document c.in-Ok.ensures.value _ (map view c.args.values.now)
    c.in-Ok-examined.report c.in-Ok-examined.ensures.report
