use Rattle.syntax_trees.specs.Item.{item_view}
use Rattle.attr_defs.specs.Container.{container_diagnostics}
use Rattle.attr_defs.specs.Texts.{lexed}
use Rattle.derive_attr.proofs.laws.containers_read_alike.Goals as goal

pub returns-clause-told : goal.returns-clause-told
returns-clause-told c = record { told = container_diagnostics lexed (item_view c.args.item.now); by_first = c.in_ok-one.ensures.told; by_second = c.in_ok-other.ensures.told }
