use Rattle.std.proofs.Common.{map, ap, ◌∙◌}
use Rattle.syntax_trees.specs.Item.{item_view}
use Rattle.typify_run.specs.Examine.{as_it_stands}
use Rattle.typify_run.specs.Headline.{read_of}
use Rattle.covers_run.proofs.comparing.module_of.Goals as goal

pub returns-in-Ok-clause-table : goal.returns-in-Ok-clause-table
returns-in-Ok-clause-table c = λ i. record { models = (c.in-Ok.ensures.models ∙ ap (λ is. read_of as_it_stands (map item_view is)) c.deref.ensures.value) i; conversions = c.in-Ok.ensures.conversions i }

pub returns-in-Ok-clause-items : goal.returns-in-Ok-clause-items
returns-in-Ok-clause-items c = c.in-Ok.ensures.items ∙ ap (λ is. map item_view is) c.deref.ensures.value
