use Rattle.syntax_trees.specs.View.{segment_view}
use Rattle.item_models.proofs.Places.{one_segment}
use Rattle.item_models.proofs.default_model.digits_in.Goals as goal

pub returns-in-len1 : goal.returns-in-len1
returns-in-len1 c = one_segment segment_view c.args.segments.now c.in-len1.len_at_least c.in-len1.len_below
