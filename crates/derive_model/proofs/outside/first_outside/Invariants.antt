use Rattle.std.proofs.Common.{◌≡◌, map, drop}
use Rattle.syntax_trees.specs.Item.{item_view}
use Rattle.conversion_table.specs.Conversions.{conversions_view}
use Rattle.container_defs.specs.Forms.{names_of, is_outside}
use Rattle.derive_ast.specs.Views.{container_view}
use Rattle.derive_model.specs.Items.{first_from}
use Rattle.derive_model.proofs.outside.first_outside.Given as goal

abbrev pub invariant-loop-place : goal.invariant-loop-place
invariant-loop-place l =
    let test = is_outside (names_of (map item_view l.names.items.now)) (conversions_view l.conversions) in
    first_from test l.place (map container_view (drop l.place l.read)) ≡ first_from test 0 (map container_view l.read)
