use Rattle.std.proofs.Common.{string_bytes}
use Rattle.token_trees.specs.View.{stream}
use Rattle.token_trees.specs.Text.{pieces_of}
use Rattle.token_trees.proofs.Levels.{Says, pieces_left, lefts}
use Rattle.token_trees.proofs.Weights.{work}
use Rattle.token_trees.proofs.text.print_stream.Given as goal

abbrev pub invariant-loop-left : goal.invariant-loop-left
invariant-loop-left l =
    Says (string_bytes l.initial.out.text) l.initial.out.tight (pieces_of (stream l.stream)) (string_bytes l.out.text) l.out.tight (pieces_left l.levels.items)

abbrev pub decreases-loop-left : goal.decreases-loop-left
decreases-loop-left l = work (lefts l.levels.items)
