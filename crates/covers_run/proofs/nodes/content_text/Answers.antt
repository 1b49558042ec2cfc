use Rattle.std.proofs.Common.{ap, ◌∙◌}
use Rattle.covers_run.specs.Page.{item_variant}
use Rattle.covers_run.proofs.nodes.content_text.Goals as goal

pub returns-in_ok-text-in-Some : goal.returns-in_ok-text-in-Some
returns-in_ok-text-in-Some c = c.in_ok-text-in-Some.ensures ∙ ap (item_variant c.args.variant) c.in-Some.ensures
