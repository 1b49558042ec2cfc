use Rattle.std.proofs.Common.{map}
use Rattle.std.specs.Vec.Iter.{into_iter_items, into_iter_len}
use Rattle.attr_parts.specs.Diagnostics.{diagnostics}
use Rattle.attr_parts.specs.Names.{attr_name}
use Rattle.attr_acts.specs.Views.{acts_view}
use Rattle.attr_acts.specs.Kept.{settings_view}
use Rattle.attr_acts.proofs.Kept.{Doing}
use Rattle.attr_acts.proofs.performing.perform.Given as goal

abbrev pub invariant-loop-act : goal.invariant-loop-act
invariant-loop-act l = Doing (diagnostics l.initial.cx) (diagnostics l.cx) (settings_view l.settings) (map attr_name l.settings.names.items) (acts_view (into_iter_items l.left)) (acts_view l.fn.acts.items)

abbrev pub decreases-loop-act : goal.decreases-loop-act
decreases-loop-act l = into_iter_len l.left
