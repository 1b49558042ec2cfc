use Rattle.std.proofs.Common.{ap, sym, ◌∙◌}
use Rattle.entry_defs.specs.Entry.{newtype_contents}
use Rattle.convert_defs.specs.Convert.{content_of}
use Rattle.row_findings.specs.View.{tag_view}
use Rattle.tree_types.specs.View.{tree_view}
use Rattle.tree_types.proofs.Seen.{enum_seen}
use Rattle.tree_parts.proofs.contents.content.Goals as goal

pub returns-in_ok-parts-in-Enum : goal.returns-in_ok-parts-in-Enum
returns-in_ok-parts-in-Enum c =
    c.in_ok-parts-in-Enum.ensures ∙ ap newtype_contents c.enum_of.ensures
    ∙ ap (content_of (tag_view c.args.tag.now) c.args.closed) (sym (ap tree_view c.in-Enum.is ∙ enum_seen c.in-Enum.name c.in-Enum.own c.in-Enum.by c.in-Enum.variants))
