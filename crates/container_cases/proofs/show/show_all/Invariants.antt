use Rattle.std.proofs.Common.{length}
use Rattle.derive_ast.specs.Left.{left}
use Rattle.container_cases.proofs.show.show_all.Given as goal

abbrev pub decreases-loop-field : goal.decreases-loop-field
decreases-loop-field l = length (left l.fields)
