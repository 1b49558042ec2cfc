use Rattle.std.proofs.Common.{ap, ◌∙◌}
use Rattle.syntax_trees.specs.Item.{body_view}
use Rattle.attr_acts.specs.Kept.{values_in}
use Rattle.derive_attr.proofs.Identifiers.{identifier_at}
use Rattle.derive_attr.proofs.tag.decide_identifier.Goals as goal

pub returns : goal.returns
returns c =
    let v = values_in c.args.settings.now in
    c.identifier_of.ensures ∙ identifier_at (body_view c.args.body.now) v _ _ (c.get-field.ensures ∙ ap v c.whole.ensures) (c.get-variant.ensures ∙ ap v c.whole-2.ensures)
