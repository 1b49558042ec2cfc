use Rattle.std.proofs.Common.{rules, ap, sym, ◌∙◌}
use Rattle.entry_defs.specs.Entry.{newtype_contents}
use Rattle.row_findings.specs.View.{tag_view}
use Rattle.tree_parts.proofs.Holding.{places_held, tuple_held}
use Rattle.tree_parts.proofs.contents.tuple_content.Goals as goal

pub returns-then-len-ge2 : goal.returns-then-len-ge2
returns-then-len-ge2 c = sym (places_held (tag_view c.args.tag.now) c.args.closed c.args.places.items (search rules))

pub returns : goal.returns
returns c = c.in_ok-parts.ensures ∙ ap newtype_contents c.tuple_tree.ensures ∙ sym (tuple_held (tag_view c.args.tag.now) c.args.closed c.args.places.items (search rules))
