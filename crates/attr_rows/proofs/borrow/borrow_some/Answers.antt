use Rattle.std.proofs.Common.{◌++◌, ap, sym, ◌∙◌}
use Rattle.std.specs.Prelude.{option_map}
use Rattle.syntax_trees.specs.Item.{field_view}
use Rattle.attr_parts.specs.Lifetimes.{lifetimes}
use Rattle.attr_parts.specs.Names.{attr_name}
use Rattle.attr_defs.specs.Borrows.{field_borrow}
use Rattle.attr_acts.specs.Views.{acts_view}
use Rattle.attr_rows.proofs.LifetimeSets.{held_told}
use Rattle.attr_rows.proofs.borrow.borrow_some.Goals as goal

pub returns-in_ok-set_borrowed-in-Some : goal.returns-in_ok-set_borrowed-in-Some
returns-in_ok-set_borrowed-in-Some c =
    let f = field_view c.args.field.now in
    let n = attr_name c.args.name.now in
    held_told f n c.args.at (lifetimes c.args.held) (lifetimes c.in-Some.given) _ _ _ c.requires.held c.requires.some c.in_ok-tell_all_lacking-in-Some.ensures c.in_ok-set_borrowed-in-Some.ensures
    ∙ ap (λ o. acts_view c.args.acts.now.items ++ field_borrow f n c.args.at (option_map lifetimes o)) (sym c.in-Some.is)
