use Rattle.std.proofs.Common.{◌≡◌, [], ◌++◌, length, string_bytes}
use Rattle.token_trees.specs.View.{stream, trees}
use Rattle.module_texts.specs.Attributes.{argument_lines}
use Rattle.module_texts.proofs.attributes.push_arguments.Given as goal

abbrev pub invariant-loop-first : goal.invariant-loop-first
invariant-loop-first l = string_bytes l.out ++ argument_lines l.indent (stream l.begun) (trees l.left) ≡ string_bytes l.initial.out ++ argument_lines l.indent [] (trees l.tokens)

abbrev pub decreases-loop-first : goal.decreases-loop-first
decreases-loop-first l = length l.left
