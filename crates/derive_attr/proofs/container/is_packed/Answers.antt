use Rattle.std.proofs.Common.{sym, ◌∙◌}
use Rattle.syntax_trees.specs.Item.{attribute_view}
use Rattle.attr_defs.specs.Container.{is_packing}
use Rattle.attr_acts.proofs.Loops.{any_here, any_later}
use Rattle.derive_attr.proofs.container.is_packed.Goals as goal

pub returns-then-is_packing : goal.returns-then-is_packing
returns-then-is_packing c =
    let l = c.loop-attribute in
    sym (l.invariant ∙ any_here is_packing attribute_view c.args.attributes.now l.attribute-index c.attribute-item.result c.loop-attribute-test.true c.attribute-item.is (sym c.is_packing.ensures ∙ c.if-is_packing.true))

pub loop-attribute-preserved : goal.loop-attribute-preserved
loop-attribute-preserved c =
    let l = c.loop-attribute in
    l.invariant ∙ any_later is_packing attribute_view c.args.attributes.now l.attribute-index c.attribute-item.result c.loop-attribute-test.true c.attribute-item.is (sym c.is_packing.ensures ∙ c.if-is_packing.false)
