use Rattle.std.proofs.Common.{◌≡◌, ◌+◌, drop, length}
use Rattle.token_trees.specs.View.{trees}
use Rattle.syntax_trees.specs.Metas.{from_comma}
use Rattle.attr_acts.proofs.part.comma_place.Given as goal

abbrev pub invariant-loop-rest : goal.invariant-loop-rest
invariant-loop-rest l = record {
  passed : drop l.passed (trees l.tokens) ≡ trees l.left;
  comma : from_comma (trees l.tokens) ≡ from_comma (trees l.left);
  room : l.passed + length l.left ≡ length l.tokens;
}

abbrev pub decreases-loop-rest : goal.decreases-loop-rest
decreases-loop-rest l = length l.left
