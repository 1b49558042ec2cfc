use Rattle.std.proofs.Common.{length}
use Rattle.rust_tokens.specs.Groups.{HasRead, levels, inner_trees}
use Rattle.rust_tokens.proofs.lexer.read_trees.Given as goal

abbrev pub invariant-loop-rest : goal.invariant-loop-rest
invariant-loop-rest l = HasRead l.chars l.span (levels l.groups) (inner_trees l.groups) l.groups.first l.rest

abbrev pub decreases-loop-rest : goal.decreases-loop-rest
decreases-loop-rest l = length l.rest
