use Rattle.std.specs.Prelude.{option_map}
use Rattle.syntax_trees.specs.Item.{field_view}
use Rattle.attr_parts.specs.Lifetimes.{lifetimes}
use Rattle.attr_parts.specs.Names.{attr_name}
use Rattle.attr_acts.specs.Views.{acts_view}
use Rattle.attr_rows.proofs.LifetimeSets.{nothing_held}
use Rattle.attr_rows.proofs.borrow.borrow_field.Goals as goal

pub returns-then-is_empty : goal.returns-then-is_empty
returns-then-is_empty c =
    nothing_held (field_view c.args.field.now) (attr_name c.args.name.now) c.args.at (option_map lifetimes c.args.given) c.in_ok-held.held (acts_view c.args.acts.now.items) (acts_view c.tell_none_held.new.acts.items) c.in_ok-held.ensures (c.is_empty.ensures.0 c.if-is_empty.true) c.in_ok-tell_none_held.ensures
