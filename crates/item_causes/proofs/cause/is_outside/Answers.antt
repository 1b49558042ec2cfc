use Rattle.std.proofs.Common.{map, ap, ◌∙◌}
use Rattle.std.specs.List.{list_any}
use Rattle.syntax_trees.specs.Item.{item_view}
use Rattle.conversion_table.specs.Conversions.{conversions_view}
use Rattle.container_defs.specs.Forms.{names_of}
use Rattle.derive_ast.specs.Views.{container_view}
use Rattle.item_causes.specs.Causes.{cause_test}
use Rattle.item_causes.proofs.Outside.{same_causes}
use Rattle.item_causes.proofs.cause.is_outside.Goals as goal

pub returns : goal.returns
returns c =
    let items = names_of (map item_view c.args.names.now.items.now) in
    let k = conversions_view c.args.conversions.now in
    let x = container_view c.args.container.now in
    same_causes items k x c.in_ok-outside.outside (c.in_ok-outside.ensures ∙ ap (list_any (λ q. cause_test items k q x)) c.all_causes.ensures)
