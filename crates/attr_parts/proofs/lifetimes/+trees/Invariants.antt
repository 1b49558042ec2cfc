use Rattle.std.proofs.Common.{◌+◌, ◌*◌, drop, map, None}
use Rattle.token_trees.specs.Token.{toks_of}
use Rattle.token_trees.specs.View.{tree}
use Rattle.attr_parts.specs.Lifetimes.{lifetimes, tokens_lifetimes, token_count, tokens_count, AddsUpTo}
use Rattle.attr_parts.proofs.lifetimes.+trees.Given as goal

abbrev pub invariant-collect_trees-loop-item : goal.invariant-collect_trees-loop-item
invariant-collect_trees-loop-item l = AddsUpTo (lifetimes l.initial.out) (lifetimes l.out) (tokens_lifetimes None (toks_of (map tree l.from))) (tokens_lifetimes l.before (toks_of (map tree (drop l.item-index l.from))))

abbrev pub decreases-collect_trees : goal.decreases-collect_trees
decreases-collect_trees l = 3 * tokens_count (toks_of (map tree l.from.now)) + 2

abbrev pub decreases-collect_group : goal.decreases-collect_group
decreases-collect_group l = 3 * token_count (tree l.token.now)

abbrev pub decreases-collect_next : goal.decreases-collect_next
decreases-collect_next l = 3 * token_count (tree l.token.now) + 1
