use Rattle.std.proofs.Common.{refl}
use Rattle.entry_types.specs.View.{id_view}
use Rattle.tree_types.specs.View.{tree_view}
use Rattle.typify_convert.proofs.Planned.{tree_plans}
use Rattle.typify_convert.proofs.plan.place_next.Goals as goal

pub returns : goal.returns
returns c t plans =
    tree_plans c.args.plan.now _ t (tree_view c.in_ok-named.named) (tree_view c.args.tree.now) (id_view c.in_ok-id.id) plans c.in_ok-named.ensures c.in_ok-id.ensures refl
