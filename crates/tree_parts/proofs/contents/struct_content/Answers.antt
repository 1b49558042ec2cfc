use Rattle.std.proofs.Common.{rules, ◌≡◌, false, ◌&&◌, is_none, ap, sym, ◌∙◌}
use Rattle.entry_defs.specs.Entry.{newtype_contents}
use Rattle.convert_defs.specs.Convert.{same_flag}
use Rattle.row_findings.specs.View.{tag_view}
use Rattle.tree_types.specs.View.{label_view, parts_of}
use Rattle.tree_parts.proofs.Holding.{fields_held, struct_held}
use Rattle.tree_parts.proofs.contents.struct_content.Goals as goal
use Rattle.tree_parts.proofs.contents.struct_content.Goals.{else-own-closed-via-then-own-closed+else-is_none, else-own-closed-via-else-own-closed}

pub returns-then-is_none : goal.returns-then-is_none
returns-then-is_none c = fields_held (tag_view c.args.tag.now) c.args.closed c.args.own (label_view c.args.name) (parts_of c.args.fields.items) c.args.rest (search rules)

pub returns : goal.returns
returns c =
    let apart : (same_flag c.args.own c.args.closed && is_none c.args.rest) ≡ false =
    elim c.else-own-closed.branch [ else-own-closed-via-then-own-closed+else-is_none w ↦ search rules | else-own-closed-via-else-own-closed w ↦ search rules ] in
    c.in_ok-parts.ensures ∙ ap newtype_contents c.struct_of.ensures
    ∙ sym (struct_held (tag_view c.args.tag.now) c.args.closed c.args.own (label_view c.args.name) (parts_of c.args.fields.items) c.args.rest apart)
