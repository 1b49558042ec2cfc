use Rattle.std.proofs.Common.{◌≡◌, drop}
use Rattle.schema_defs.specs.Texts.{Relations}
use Rattle.schema_tree.specs.Document.{view}
use Rattle.row_table.specs.Lines.{first_of}
use Rattle.row_table.proofs.line.first_of.Given as goal

abbrev pub invariant-loop-line : goal.invariant-loop-line
invariant-loop-line l = (r : Relations) → first_of r (view l.document) l.keywords l.lines ≡ first_of r (view l.document) l.keywords (drop l.line-index l.lines)
