-- Paths with a segment more.
use Rattle.syntax_trees.specs.Syntax.{PathD, path, SegmentD}
use Rattle.attr_defs.specs.Rows.{and_segment}

abbrev pub longer : PathD → SegmentD → PathD
longer (path leading ss) s = path leading (and_segment ss s)
