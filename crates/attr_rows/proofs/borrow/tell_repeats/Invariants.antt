use Rattle.std.proofs.Common.{◌≡◌, ◌++◌, map, drop, take, []}
use Rattle.syntax_trees.specs.View.{lifetime_view}
use Rattle.attr_parts.specs.Lifetimes.{lifetimes}
use Rattle.attr_defs.specs.Borrows.{repeats_told, set_of}
use Rattle.attr_acts.specs.Views.{acts_view}
use Rattle.attr_rows.proofs.borrow.tell_repeats.Given as goal

abbrev pub invariant-loop-lifetime : goal.invariant-loop-lifetime
invariant-loop-lifetime l = record {
  before : lifetimes l.before ≡ set_of (map lifetime_view (take l.lifetime-index l.all));
  acts : acts_view l.acts.items ++ repeats_told l.at (map lifetime_view (take l.lifetime-index l.all)) (map lifetime_view (drop l.lifetime-index l.all)) ≡ acts_view l.initial.acts.items ++ repeats_told l.at [] (map lifetime_view l.all);
}
