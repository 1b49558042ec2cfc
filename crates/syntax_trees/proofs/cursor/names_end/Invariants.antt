use Rattle.std.proofs.Common.{◌≡◌, ◌+◌, drop, length}
use Rattle.std.specs.Prelude.{option_map}
use Rattle.token_trees.specs.View.{trees}
use Rattle.syntax_trees.specs.Metas.{names_len, no_name}
use Rattle.syntax_trees.proofs.cursor.names_end.Given as goal

abbrev pub invariant-loop-first : goal.invariant-loop-first
invariant-loop-first l = record {
  passed : drop l.passed (trees l.tokens) ≡ trees l.left;
  names : names_len (trees l.tokens) ≡ option_map (λ n. n + l.passed) (names_len (trees l.left));
  missing : no_name (trees l.tokens) ≡ no_name (trees l.left);
  room : l.passed + length l.left ≡ length l.tokens;
}

abbrev pub decreases-loop-first : goal.decreases-loop-first
decreases-loop-first l = length l.left
