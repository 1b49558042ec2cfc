use Rattle.std.proofs.Common.{◌≡◌, sym, ap, ◌∙◌}
use Rattle.schema_tree.specs.Document.{view}
use Rattle.enum_defs.specs.Exclusive.{exclusive}
use Rattle.one_of_rows.proofs.one_of.is_exclusive.Goals as goal

pub returns : goal.returns
returns c = c.exclusive.ensures ∙ ap (exclusive (view c.args.document.now)) (sym c.requires)
