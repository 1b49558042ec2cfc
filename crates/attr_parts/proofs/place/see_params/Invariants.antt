use Rattle.std.proofs.Common.{◌≡◌, drop, map}
use Rattle.syntax_trees.specs.Item.{param_view}
use Rattle.attr_parts.specs.Places.{params_spans, reached}
use Rattle.attr_parts.proofs.place.see_params.Given as goal

abbrev pub invariant-loop-item : goal.invariant-loop-item
invariant-loop-item l = reached l.reach (params_spans (map param_view (drop l.item-index l.from))) ≡ reached l.initial.reach (params_spans (map param_view l.from))
