use Rattle.std.proofs.Common.{◌≡◌, drop, map}
use Rattle.syntax_trees.specs.View.{lifetime_view}
use Rattle.attr_parts.specs.Places.{lifetimes_spans, reached}
use Rattle.attr_parts.proofs.place.see_lifetimes.Given as goal

abbrev pub invariant-loop-item : goal.invariant-loop-item
invariant-loop-item l = reached l.reach (lifetimes_spans (map lifetime_view (drop l.item-index l.from))) ≡ reached l.initial.reach (lifetimes_spans (map lifetime_view l.from))
