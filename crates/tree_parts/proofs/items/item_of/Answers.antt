use Rattle.std.proofs.Common.{ap, sym, ◌∙◌}
use Rattle.convert_defs.specs.Convert.{as_item}
use Rattle.tree_types.specs.View.{tree_view, item_entry}
use Rattle.tree_types.proofs.Seen.{enum_seen}
use Rattle.tree_parts.proofs.items.item_of.Goals as goal

pub returns-in-Enum : goal.returns-in-Enum
returns-in-Enum c = c.enum_tree.ensures ∙ ap (λ e. item_entry (as_item c.args.name.now e)) (sym (ap tree_view c.in-Enum.is ∙ enum_seen _ _ _ _))
