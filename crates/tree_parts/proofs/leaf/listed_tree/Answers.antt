use Rattle.std.proofs.Common.{option_map}
use Rattle.schema_types.specs.View.{texts_view}
use Rattle.model_defs.specs.Model.{external_tag}
use Rattle.tree_types.specs.View.{tree_view, variants_view, cases_of}
use Rattle.tree_parts.proofs.Leaves.{listed_whole}
use Rattle.tree_parts.proofs.leaf.listed_tree.Goals as goal

pub returns-clause-answer : goal.returns-clause-answer
returns-clause-answer g c =
    listed_whole (g.T.Texts.relations c.args.texts.now) (option_map (λ x. texts_view x.now) c.args.rules) c.args.values c.args.name.now c.any_of.result
    (variants_view external_tag (cases_of c.in_ok-kept.kept.items)) (tree_view c.in_ok-tree.tree) c.any_of.ensures c.in_ok-kept.ensures.answer c.in_ok-tree.ensures.answer
