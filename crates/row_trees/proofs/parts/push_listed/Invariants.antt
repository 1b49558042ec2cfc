use Rattle.std.proofs.Common.{◌≡◌, ◌++◌, drop, map}
use Rattle.row_findings.specs.View.{part_view}
use Rattle.row_trees.proofs.parts.push_listed.Given as goal

abbrev pub invariant-loop-part : goal.invariant-loop-part
invariant-loop-part l = map (λ p. part_view p.now) l.parts.items ++ map part_view (drop l.part-index l.part-items) ≡ map (λ p. part_view p.now) l.initial.parts.items ++ map part_view l.part-items
