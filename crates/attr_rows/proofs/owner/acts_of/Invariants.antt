use Rattle.std.proofs.Common.{◌≡◌, ◌++◌, map, drop}
use Rattle.attr_defs.specs.Rows.{acts_of}
use Rattle.attr_defs.specs.Texts.{lexed}
use Rattle.attr_acts.specs.Parts.{part_view}
use Rattle.attr_acts.specs.Views.{acts_view}
use Rattle.attr_rows.specs.OwnerView.{owner_view}
use Rattle.attr_rows.proofs.owner.acts_of.Given as goal

abbrev pub invariant-loop-part : goal.invariant-loop-part
invariant-loop-part l = acts_view l.acts.items ++ acts_of lexed (owner_view l.owner) (map part_view (drop l.part-index l.parts)) ≡ acts_view l.initial.acts.items ++ acts_of lexed (owner_view l.owner) (map part_view l.parts)
