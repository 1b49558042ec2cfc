use Rattle.std.proofs.Common.{map, drop}
use Rattle.attr_defs.specs.Halves.{halves_in}
use Rattle.attr_defs.specs.Texts.{lexed, predicates_step}
use Rattle.attr_acts.specs.Parts.{part_view}
use Rattle.attr_acts.specs.Views.{acts_view, predicates_view}
use Rattle.attr_acts.specs.HalfViews.{halves_view}
use Rattle.attr_acts.proofs.HalfSteps.{Left}
use Rattle.attr_rows.proofs.bound.predicates_in_list.Given as goal

abbrev pub invariant-loop-part : goal.invariant-loop-part
invariant-loop-part l = Left (acts_view l.initial.acts.items) (acts_view l.acts.items) (halves_view predicates_view l.predicates) (halves_in l.name.0.now (predicates_step lexed l.name.0.now) (map part_view (drop l.part-index l.parts))) (halves_in l.name.0.now (predicates_step lexed l.name.0.now) (map part_view l.parts))
