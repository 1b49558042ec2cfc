use Rattle.std.proofs.Common.{map, ap, sym, ◌∙◌}
use Rattle.syntax_trees.specs.Syntax.{path, segments_of}
use Rattle.syntax_trees.specs.View.{segment_view}
use Rattle.attr_rows.specs.Longer.{longer}
use Rattle.attr_rows.proofs.TreeViews.{path_longer, path_rolled}
use Rattle.attr_rows.proofs.defaults.longer.Goals as goal

pub returns : goal.returns
returns c =
    let r = c.into_parts-leading.result in
    path_rolled r.0 c.push.new.self
    ∙ ap (λ ss. path r.0 (segments_of (map segment_view ss))) c.in_ok-push.ensures.items
    ∙ path_longer r.0 r.1.items c.args.segment
    ∙ ap (λ q. longer q (segment_view c.args.segment)) (sym c.into_parts-leading.ensures)
