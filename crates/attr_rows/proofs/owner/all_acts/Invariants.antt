use Rattle.std.proofs.Common.{◌≡◌, ◌++◌, map, drop}
use Rattle.syntax_trees.specs.Item.{attribute_view}
use Rattle.attr_defs.specs.Rows.{all_acts}
use Rattle.attr_defs.specs.Texts.{lexed}
use Rattle.attr_acts.specs.Views.{acts_view}
use Rattle.attr_rows.specs.OwnerView.{owner_view}
use Rattle.attr_rows.proofs.owner.all_acts.Given as goal

abbrev pub invariant-loop-attribute : goal.invariant-loop-attribute
invariant-loop-attribute l = acts_view l.acts.items ++ all_acts lexed (owner_view l.owner) (map attribute_view (drop l.attribute-index l.attributes)) ≡ acts_view l.initial.acts.items ++ all_acts lexed (owner_view l.owner) (map attribute_view l.attributes)
