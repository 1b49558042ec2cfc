use Rattle.std.proofs.Common.{map, drop}
use Rattle.attr_defs.specs.Halves.{halves_in}
use Rattle.attr_defs.specs.Texts.{string_step}
use Rattle.attr_acts.specs.Parts.{part_view}
use Rattle.attr_acts.specs.Views.{acts_view, text_view}
use Rattle.attr_acts.specs.HalfViews.{halves_view}
use Rattle.attr_acts.proofs.HalfSteps.{Left}
use Rattle.attr_acts.proofs.halves.texts_in.Given as goal

abbrev pub invariant-loop-part : goal.invariant-loop-part
invariant-loop-part l = Left (acts_view l.initial.acts.items) (acts_view l.acts.items) (halves_view text_view l.texts) (halves_in l.name.0.now (string_step l.name.0.now) (map part_view (drop l.part-index l.parts))) (halves_in l.name.0.now (string_step l.name.0.now) (map part_view l.parts))
