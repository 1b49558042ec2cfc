use Rattle.std.proofs.Common.{◌≡◌, drop, map}
use Rattle.token_trees.specs.View.{tree}
use Rattle.attr_parts.specs.Places.{tokens_spans, reached}
use Rattle.attr_parts.proofs.place.see_trees.Given as goal

abbrev pub invariant-loop-item : goal.invariant-loop-item
invariant-loop-item l = reached l.reach (tokens_spans (map tree (drop l.item-index l.from))) ≡ reached l.initial.reach (tokens_spans (map tree l.from))
