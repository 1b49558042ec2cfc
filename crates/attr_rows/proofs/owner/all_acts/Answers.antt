use Rattle.std.proofs.Common.{refl, ◌++◌}
use Rattle.syntax_trees.specs.Item.{attribute_view}
use Rattle.attr_defs.specs.Metas.{metas_of}
use Rattle.attr_defs.specs.Rows.{acts_of, all_acts}
use Rattle.attr_defs.specs.Texts.{lexed}
use Rattle.attr_rows.specs.OwnerView.{owner_view}
use Rattle.attr_acts.proofs.Loops.{mapped_drop, more_acts}
use Rattle.attr_rows.proofs.owner.all_acts.Goals as goal

pub loop-attribute-preserved : goal.loop-attribute-preserved
loop-attribute-preserved c =
    let l = c.loop-attribute in
    let o = owner_view c.args.owner in
    let next = mapped_drop attribute_view c.args.attributes.now l.attribute-index c.attribute-item.result c.loop-attribute-test.true c.attribute-item.is in
    more_acts (all_acts lexed o) (λ a. acts_of lexed o (metas_of a)) (λ m ms. refl) _ _ _ _ _ _ l.invariant next c.in_ok-attribute_acts.ensures
