use Rattle.std.proofs.Common.{not, map, refl, ap}
use Rattle.syntax_trees.specs.View.{lifetime_view}
use Rattle.syntax_trees.specs.Item.{field_view}
use Rattle.attr_parts.specs.Diagnostics.{lacks_lifetime}
use Rattle.attr_parts.specs.Lifetimes.{lifetimes}
use Rattle.attr_parts.specs.Names.{attr_name}
use Rattle.attr_parts.specs.Places.{place_of, field_spans}
use Rattle.attr_defs.specs.Borrows.{has_lifetime, lacks_told, lifetime_text, told_where}
use Rattle.attr_acts.proofs.Loops.{more_acts}
use Rattle.attr_rows.proofs.borrow.tell_all_lacking.Goals as goal

pub loop-lifetime-preserved : goal.loop-lifetime-preserved
loop-lifetime-preserved c =
    let l = c.loop-lifetime in
    let f = field_view c.args.field.now in
    let n = attr_name c.args.name.now in
    let held = lifetimes c.args.held.now in
    let next = ap (map lifetime_view) c.in-Some.ensures.steps in
    more_acts (lacks_told f n held) (λ m. told_where (not (has_lifetime held m)) (lacks_lifetime n.text (lifetime_text m)) (place_of (field_spans f))) (λ m ms. refl) _ _ _ _ _ _ l.invariant next c.in_ok-tell_lacking.ensures
