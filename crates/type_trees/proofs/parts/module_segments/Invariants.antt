use Rattle.std.proofs.Common.{◌≡◌, ◌++◌, map, drop}
use Rattle.syntax_trees.specs.View.{segment_view}
use Rattle.type_trees.specs.RowView.{symbols, module_segments}
use Rattle.type_trees.proofs.parts.module_segments.Given as goal

abbrev pub invariant-loop-module : goal.invariant-loop-module
invariant-loop-module l =
    map segment_view l.segments.items ++ module_segments (symbols (drop l.module-index l.modules)) ≡ module_segments (symbols l.modules)
