use Rattle.syntax_trees.specs.View.{expr_path_view}
use Rattle.container_defs.specs.Reader.{default_place}
use Rattle.item_causes.proofs.place.is_at.Goals as goal

pub returns : goal.returns
returns c = c.is_below.ensures (default_place (expr_path_view c.args.path.now)) c.in_ok-place.ensures
