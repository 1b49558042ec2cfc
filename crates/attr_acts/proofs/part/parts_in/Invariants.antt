use Rattle.std.proofs.Common.{◌≡◌, ◌++◌, map, length}
use Rattle.token_trees.specs.View.{trees}
use Rattle.attr_defs.specs.Metas.{metas_in}
use Rattle.attr_acts.specs.Parts.{part_view}
use Rattle.attr_acts.proofs.part.parts_in.Given as goal

abbrev pub invariant-loop-metas : goal.invariant-loop-metas
invariant-loop-metas l = record {
  read : map part_view l.parts.items ++ metas_in l.metas.at (trees l.metas.left.now) ≡ metas_in l.fn.at (trees l.fn.tokens);
  at : l.metas.at ≡ l.fn.at;
}

abbrev pub decreases-loop-metas : goal.decreases-loop-metas
decreases-loop-metas l = length l.metas.left.now
