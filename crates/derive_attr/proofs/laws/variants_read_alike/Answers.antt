use Rattle.syntax_trees.specs.Item.{variant_view}
use Rattle.attr_defs.specs.Members.{variant_diagnostics}
use Rattle.attr_defs.specs.Texts.{lexed}
use Rattle.derive_attr.proofs.laws.variants_read_alike.Goals as goal

pub returns-clause-told : goal.returns-clause-told
returns-clause-told c = record { told = variant_diagnostics lexed (variant_view c.args.variant.now); by_first = c.in_ok-one.ensures.told; by_second = c.in_ok-other.ensures.told }
