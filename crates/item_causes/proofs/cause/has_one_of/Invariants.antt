use Rattle.std.proofs.Common.{◌≡◌, map, drop}
use Rattle.std.specs.List.{list_any}
use Rattle.syntax_trees.specs.Item.{item_view}
use Rattle.conversion_table.specs.Conversions.{conversions_view}
use Rattle.container_defs.specs.Forms.{names_of}
use Rattle.derive_ast.specs.Views.{container_view}
use Rattle.item_causes.specs.Causes.{cause_test}
use Rattle.item_causes.proofs.cause.has_one_of.Given as goal

abbrev pub invariant-loop-cause : goal.invariant-loop-cause
invariant-loop-cause l =
    let test = cause_test (names_of (map item_view l.names.items.now)) (conversions_view l.conversions) in
    list_any (λ k. test k (container_view l.container)) l.listed ≡ list_any (λ k. test k (container_view l.container)) (drop l.cause-index l.listed)
