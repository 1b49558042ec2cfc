use Rattle.std.proofs.Common.{ap, sym, ◌∙◌, option_map}
use Rattle.schema_tree.specs.Conversions.{rule_view}
use Rattle.entry_defs.specs.Space.{newtype_shape_at}
use Rattle.space_defs.specs.Trees.{item_tree_at}
use Rattle.emit_types.specs.Asked.{space_view, same_part, placed_item}
use Rattle.emit_items.proofs.items.newtype_item.Goals as goal

pub returns-in_ok-bare_newtype-in-None : goal.returns-in_ok-bare_newtype-in-None
returns-in_ok-bare_newtype-in-None c = λ leads n.
    c.in_ok-bare_newtype-in-None.ensures leads n
    ∙ ap (λ r. item_tree_at (space_view c.args.entries.now) (same_part c.args.parts.now) leads n (placed_item c.args.owner c.args.name.now (newtype_shape_at c.args.inner.0 (option_map rule_view r)))) (sym c.in-None.is)

pub returns-in_ok-ruled_newtype-in-Some : goal.returns-in_ok-ruled_newtype-in-Some
returns-in_ok-ruled_newtype-in-Some c = λ leads n.
    c.in_ok-ruled_newtype-in-Some.ensures leads n
    ∙ ap (λ r. item_tree_at (space_view c.args.entries.now) (same_part c.args.parts.now) leads n (placed_item c.args.owner c.args.name.now (newtype_shape_at c.args.inner.0 (option_map rule_view r)))) (sym c.in-Some.is)
