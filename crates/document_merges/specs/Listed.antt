-- Parts of a row by references.
use Rattle.std.specs.Prelude.{List, map}
use Rattle.convert_defs.specs.Row.{Part}
use Rattle.row_findings.specs.View.{part_view}
use Rattle.document_merges.specs.declared.listed.Listed.{Listed}

abbrev pub listed_view : List Listed → List Part
listed_view ps = map (λ p. part_view p.part.now) ps
