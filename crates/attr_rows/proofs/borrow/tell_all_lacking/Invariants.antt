use Rattle.std.proofs.Common.{◌≡◌, ◌++◌, map}
use Rattle.syntax_trees.specs.View.{lifetime_view}
use Rattle.syntax_trees.specs.Item.{field_view}
use Rattle.attr_parts.specs.Names.{attr_name}
use Rattle.attr_parts.specs.Lifetimes.{lifetimes}
use Rattle.attr_defs.specs.Borrows.{lacks_told}
use Rattle.attr_acts.specs.Views.{acts_view}
use Rattle.attr_rows.proofs.borrow.tell_all_lacking.Given as goal

abbrev pub invariant-loop-lifetime : goal.invariant-loop-lifetime
invariant-loop-lifetime l = acts_view l.acts.items ++ lacks_told (field_view l.field) (attr_name l.name) (lifetimes l.held) (map lifetime_view l.lifetime-iterator) ≡ acts_view l.initial.acts.items ++ lacks_told (field_view l.field) (attr_name l.name) (lifetimes l.held) (lifetimes l.given)
