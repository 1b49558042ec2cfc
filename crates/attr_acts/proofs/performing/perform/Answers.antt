use Rattle.std.proofs.Common.{refl, ap, sym, ◌∙◌, map}
use Rattle.std.specs.Vec.Iter.{into_iter_items}
use Rattle.attr_parts.specs.Names.{attr_name}
use Rattle.attr_acts.specs.Views.{act_view, acts_view, setting_view}
use Rattle.attr_acts.proofs.Kept.{doing_none, doing_on, doing_stops, done_values, done_told, nothing_left, always_err}
use Rattle.attr_acts.proofs.performing.perform.Goals as goal

pub loop-act-init : goal.loop-act-init
loop-act-init c = doing_none _ _ _ _ _ _ refl (ap (map setting_view) c.new.ensures.items) (ap (map attr_name) c.new-2.ensures.items) (ap acts_view c.into_iter-left.ensures.rest)

pub loop-act-preserved : goal.loop-act-preserved
loop-act-preserved c =
    let h = c.in_ok-perform_one.ensures in
    doing_on _ _ _ _ _ _ _ (act_view c.in-Some.act) _ _ _ c.loop-act.invariant (ap acts_view c.in-Some.ensures.cases.0) h.kept h.names h.ok

pub returns-in_err-perform_one-clause-err : goal.returns-in_err-perform_one-clause-err
returns-in_err-perform_one-clause-err c = always_err _ _ (doing_stops _ _ _ _ _ _ _ c.loop-act.invariant c.in_err-perform_one.ensures.err)

pub returns-clause-values : goal.returns-clause-values
returns-clause-values c = done_values _ _ _ _ _ _ c.loop-act.invariant (nothing_left (into_iter_items c.loop-act.left) (sym c.loop-act.left.rest.ok.0 ∙ c.in_default.ensures.cases.0))

pub returns-clause-told : goal.returns-clause-told
returns-clause-told c = done_told _ _ _ _ _ _ c.loop-act.invariant (nothing_left (into_iter_items c.loop-act.left) (sym c.loop-act.left.rest.ok.0 ∙ c.in_default.ensures.cases.0))
