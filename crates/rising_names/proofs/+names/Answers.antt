use Rattle.std.proofs.Common.{refl, subst, sym}
use Rattle.rising_names.proofs.Walk.{EachRises, one_item, no_item_left, ordered_rise}
use Rattle.rising_names.proofs.+names.Goals as goal

pub names_of_each_rise-loop-value-preserved : goal.names_of_each_rise-loop-value-preserved
names_of_each_rise-loop-value-preserved t c =
    λ rest. c.loop-value.invariant (one_item c.args.values.now c.loop-value.value-index c.value-item.result c.loop-value-test.true c.value-item.is c.names_rise.ensures rest)

pub names_of_each_rise-returns : goal.names_of_each_rise-returns
names_of_each_rise-returns t c = c.loop-value.invariant (no_item_left c.args.values.now c.loop-value.value-index c.loop-value-test.false)

pub names_of_members_rise-loop-value-preserved : goal.names_of_members_rise-loop-value-preserved
names_of_members_rise-loop-value-preserved t c =
    λ rest. c.loop-value.invariant (subst EachRises (sym c.in-Some.ensures.steps) (c.names_rise.ensures, rest))

pub names_of_members_rise-returns : goal.names_of_members_rise-returns
names_of_members_rise-returns t c =
    ordered_rise _ (λ a b. refl) c.args.members.now.entries c.iter-value-items.ensures.ordered (c.loop-value.invariant (subst EachRises (sym c.in-None.ensures.steps.0) tt))
