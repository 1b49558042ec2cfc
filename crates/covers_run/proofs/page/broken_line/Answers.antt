use Rattle.std.proofs.Common.{◌++◌, codes, ◌∙◌}
use Rattle.typify_run.specs.Page.{end_line}
use Rattle.covers_run.proofs.page.broken_line.Goals as goal

pub returns : goal.returns
returns c =
    c.in_ok-line.ensures
    ∙ (λ i. codes "broken " ++ c.rule_text.ensures i ++ codes " " ++ c.in_ok-place.ensures i ++ codes " " ++ c.in_ok-from.ensures i ++ codes " " ++ c.in_ok-to.ensures i ++ end_line)
